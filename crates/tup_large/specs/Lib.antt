pub mod Number
pub mod Project
pub mod Turns
pub mod Shown
