pub mod Stores
pub mod Remaining
pub mod Opened
pub mod Following
pub mod Noting
pub mod Changing
pub mod Laws
