pub mod Unmade
pub mod Cause
pub mod Files
pub mod Cleared
pub mod Crash
