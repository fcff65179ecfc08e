pub mod Joined
pub mod Pushes
pub mod Calls
pub mod Reset
pub mod Even
pub mod InWords
pub mod Taken
pub mod Order
