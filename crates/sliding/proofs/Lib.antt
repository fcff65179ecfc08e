pub mod Range
pub mod Turns
pub mod Calls
pub mod Numbers
pub mod Alike
