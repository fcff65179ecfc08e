pub mod Angle
pub mod Line
pub mod Phases
pub mod Rules
pub mod Tables
