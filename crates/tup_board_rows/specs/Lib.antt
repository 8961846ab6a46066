pub mod Apart
pub mod Desk
pub mod Opening
