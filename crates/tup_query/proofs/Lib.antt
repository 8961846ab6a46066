pub mod Runs
pub mod Went
pub mod Local
pub mod Asking
pub mod Steps
pub mod Texts
pub mod Shorts
pub mod OfKind
