pub mod Marks
pub mod Rules
pub mod Sequences
pub mod Tables
