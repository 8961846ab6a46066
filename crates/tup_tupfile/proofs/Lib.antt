pub mod Blanks
pub mod Conditions
pub mod Files
pub mod Openings
pub mod Lines
pub mod Halting
pub mod Readings
pub mod Soundness
