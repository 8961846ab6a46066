pub mod Held
pub mod Transaction
pub mod Crash
pub mod Opening
pub mod Cause
