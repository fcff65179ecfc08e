pub mod Rings
pub mod State
pub mod Memory
