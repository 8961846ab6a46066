pub mod Hands
pub mod Parallel
