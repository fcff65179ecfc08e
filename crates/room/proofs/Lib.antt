pub mod Kept
pub mod Sampled
pub mod Passing
pub mod Run
pub mod Tied
pub mod Cut
