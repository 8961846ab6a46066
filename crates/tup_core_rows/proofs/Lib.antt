pub mod Seats
pub mod Machines
mod Placing
