pub mod Layout
pub mod Features
pub mod Digits
pub mod Rules
