pub mod Marks
pub mod Dots
pub mod Listed
pub mod Onward
pub mod Turns
pub mod Spelled
pub mod Joined
pub mod Whole
