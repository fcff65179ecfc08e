pub mod Counted
pub mod Meant
pub mod Pieces
