-- Laws that the proofs share.
pub mod Facts
pub mod Windows
pub mod Lagged
pub mod Padded
pub mod Summed
pub mod Theorems
pub mod Peaks
pub mod Cases
