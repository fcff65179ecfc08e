pub mod Answers
pub mod Entries
pub mod Padded
pub mod Rules
pub mod Scaled
pub mod Shape
pub mod Sums
pub mod Pairs
