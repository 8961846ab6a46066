pub mod Sink
pub mod Memory
pub mod Told
pub mod Parted
pub mod Lines
pub mod Reporters
pub mod Written
