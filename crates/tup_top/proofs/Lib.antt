pub mod Told
pub mod Causes
pub mod True
pub mod Reported
pub mod Idle
pub mod Success
mod Succeeds
pub mod Verified
pub mod Crewed
pub mod Parted
pub mod Begun
pub mod Shown
pub mod Demo
pub mod Untouched
pub mod Foreseen
mod EachTold
mod Behind
