pub mod Owned
pub mod Sources
pub mod Listing
pub mod Given
pub mod Begin
pub mod Ascending
pub mod Members
