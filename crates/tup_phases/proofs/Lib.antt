mod Stopping
mod Opening
mod Seeing
pub mod Keeping
mod Ascending
pub mod Users
mod Brought
pub mod Within
mod Blaming
mod Filling
mod Owning
mod Tidying
mod Telling
mod Reading
pub mod Removing
