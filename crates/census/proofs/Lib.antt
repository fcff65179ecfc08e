mod Parts
mod Rows
pub mod Rules
