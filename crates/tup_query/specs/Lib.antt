pub mod Reads
pub mod Log
pub mod Key
pub mod Went
pub mod Ask
pub mod Spot
pub mod Text
