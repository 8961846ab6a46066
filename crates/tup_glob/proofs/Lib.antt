pub mod Ends
pub mod Greedy
pub mod Texts
pub mod Cuts
pub mod Reading
pub mod Spelled
