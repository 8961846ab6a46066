pub mod Apart
pub mod Behind
pub mod Distinct
pub mod Each
pub mod Making
pub mod Placing
pub mod Running
pub mod Under
