pub mod Settings
pub mod Whole
