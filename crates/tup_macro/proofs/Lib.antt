pub mod Lookups
pub mod Giving
