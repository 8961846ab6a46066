pub mod Prepared
pub mod Kept
pub mod Logged
pub mod Spared
pub mod Room
