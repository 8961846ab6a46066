pub mod Names
pub mod Run
pub mod Full
pub mod Promised
pub mod Because
pub mod Ended
pub mod Steps
pub mod Done
