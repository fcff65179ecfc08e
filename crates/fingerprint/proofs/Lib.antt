pub mod Given
pub mod Good
pub mod Ranges
