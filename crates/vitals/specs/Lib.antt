-- Definitions that the contracts of vitals cite, in the order of an estimate. `Steps` has what only the contracts of inner steps say.
pub mod Band
pub mod Series
pub mod Correlation
pub mod Peak
pub mod Rate
pub mod Divide
pub mod Energy
pub mod Steps
