pub mod Makers
pub mod Place
pub mod Run
