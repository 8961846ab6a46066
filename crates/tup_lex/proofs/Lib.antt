pub mod Trims
pub mod Joins
pub mod Coverage
pub mod Cuts
pub mod Names
pub mod Lies
