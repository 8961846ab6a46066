pub mod Trees
pub mod Guarding
pub mod Owned
pub mod Given
pub mod Opening
pub mod Listing
pub mod Ordered
pub mod Keys
