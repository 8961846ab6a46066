pub mod Grows
pub mod Lists
pub mod Readers
pub mod Steps
pub mod Walk
