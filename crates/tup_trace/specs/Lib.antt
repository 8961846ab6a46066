pub mod Quoting
pub mod Line
pub mod Trace
