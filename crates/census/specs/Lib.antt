pub mod Census
pub mod Rows
pub mod Rules
