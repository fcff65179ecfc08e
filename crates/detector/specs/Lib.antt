pub mod Verdict
pub mod Decision
pub mod State
pub mod Detector
pub mod Calls
pub mod Words
pub mod Promises
pub mod Order
