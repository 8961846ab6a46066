pub mod Fault
pub mod Project
pub mod Laws
