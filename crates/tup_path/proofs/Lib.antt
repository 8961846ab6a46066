pub mod Same
pub mod Names
pub mod Walks
pub mod Cuts
pub mod Written
pub mod Shown
pub mod Maps
pub mod Padded
