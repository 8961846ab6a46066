pub mod Held
pub mod Seats
pub mod Within
pub mod Boards
pub mod Once
