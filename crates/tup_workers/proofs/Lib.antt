pub mod Seeing
pub mod Performed
pub mod Ended
pub mod Running
pub mod Working
