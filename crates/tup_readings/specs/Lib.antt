pub mod Sources
pub mod Index
pub mod Answers
pub mod Asked
pub mod Done
pub mod Readings
pub mod Laws
pub mod State
