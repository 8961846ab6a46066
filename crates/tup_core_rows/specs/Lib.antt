pub mod Machine
pub mod Desk
pub mod Places
