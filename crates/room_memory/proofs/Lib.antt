pub mod Back
pub mod Bytes
pub mod Whole
pub mod Writing
pub mod Front
