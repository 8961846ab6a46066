pub mod Changes
pub mod Askers
pub mod Index
pub mod Suspects
pub mod Users
pub mod Seen
