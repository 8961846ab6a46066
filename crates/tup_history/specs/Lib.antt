pub mod Deed
pub mod Chain
pub mod Kept
pub mod Run
pub mod Telling
pub mod History
pub mod Stays
