pub mod Stopping
pub mod Leaving
pub mod Closing
pub mod Sent
