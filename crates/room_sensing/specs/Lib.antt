pub mod Settings
pub mod Answers
pub mod Sensing
pub mod Kinds
pub mod Rules
pub mod Order
pub mod Runs
pub mod Bench
