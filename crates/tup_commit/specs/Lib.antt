pub mod Noted
pub mod Crash
