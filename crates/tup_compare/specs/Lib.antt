pub mod Holding
pub mod Sources
pub mod Found
pub mod Stopped
pub mod Opened
pub mod Compared
