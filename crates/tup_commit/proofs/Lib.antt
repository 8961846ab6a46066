mod Noting
pub mod Crashes
pub mod Seeing
