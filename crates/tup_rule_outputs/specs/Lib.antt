pub mod Lost
pub mod Fault
pub mod Ground
