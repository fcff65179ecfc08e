pub mod Several
pub mod Worked
