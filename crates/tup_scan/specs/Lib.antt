pub mod Seen
pub mod Cause
