pub mod Makers
pub mod Options
pub mod Places
