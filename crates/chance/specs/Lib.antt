pub mod Chance
pub mod Marks
pub mod Rules
