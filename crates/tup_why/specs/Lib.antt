pub mod Reason
pub mod Waiting
pub mod Makers
pub mod Cause
pub mod Steps
pub mod Shown
