pub mod Told
pub mod Restart
pub mod New
pub mod Stored
