pub mod Permitted
pub mod Steps
pub mod Alike
pub mod Outputs
pub mod Writes
pub mod Asked
pub mod Adding
pub mod Reading
