pub mod Tupfiles
pub mod Fitting
pub mod Planned
pub mod Ordered
pub mod Beginning
pub mod Seen
pub mod Unchanged
