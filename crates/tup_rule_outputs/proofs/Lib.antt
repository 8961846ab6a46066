pub mod Faults
pub mod Committed
pub mod Puts
pub mod Made
pub mod Sent
