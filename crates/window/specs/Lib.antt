pub mod Words
pub mod Window
pub mod Sums
pub mod Order
