pub mod Asked
pub mod Told
pub mod Refused
pub mod Stages
