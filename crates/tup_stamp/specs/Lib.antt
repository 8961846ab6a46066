pub mod Hex
pub mod Stamp
