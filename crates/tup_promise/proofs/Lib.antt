pub mod Handed
pub mod Limits
pub mod Asked
pub mod BadEnds
pub mod GoodEnds
pub mod Stored
pub mod Reading
