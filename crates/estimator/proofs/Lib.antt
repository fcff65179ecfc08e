-- Laws that the proofs share.
pub mod Facts
pub mod Columns
pub mod Summing
pub mod Whole
pub mod Frames
pub mod Refusals
pub mod Cases
pub mod Theorems
