pub mod Quotes
pub mod Taken
