pub mod Making
pub mod Finding
pub mod Causes
pub mod Checks
pub mod Chains
pub mod Circles
pub mod Table
