pub mod Rule
pub mod Producer
pub mod Question
pub mod Makers
