pub mod Each
pub mod Ends
pub mod Begun
pub mod Names
pub mod Ranks
pub mod Tree
pub mod Made
