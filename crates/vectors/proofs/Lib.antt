pub mod Sizes
pub mod Rules
pub mod Means
pub mod Quarters
pub mod Rounded
