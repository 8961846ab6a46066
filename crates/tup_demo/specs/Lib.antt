pub mod Project
pub mod Calm
pub mod Steady
pub mod Build
