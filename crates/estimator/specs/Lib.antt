-- Definitions that the contracts of the estimator cite: the estimate, the estimator fed frame by frame, its state in memory, its calls, and what is promised of them. `Steps`
-- has what only the contracts of inner steps say.
pub mod Estimate
pub mod Estimator
pub mod State
pub mod Calls
pub mod Promises
pub mod Steps
