pub mod Rings
pub mod Machine
pub mod Feeding
