pub mod Turns
pub mod Edits
pub mod Deeds
pub mod Runs
pub mod Stays
pub mod Told
pub mod Logged
mod Telling
mod Finishing
pub mod Starting
