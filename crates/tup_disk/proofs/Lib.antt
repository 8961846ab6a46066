pub mod Jobs
pub mod Marked
pub mod Places
pub mod Turns
