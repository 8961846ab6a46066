pub mod Cause
pub mod Own
