pub mod Rules
pub mod Sizes
pub mod Terms
