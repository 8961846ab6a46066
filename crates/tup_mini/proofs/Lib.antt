pub mod Reading
pub mod Following
pub mod Writing
pub mod Including
pub mod Echoing
pub mod Looping
