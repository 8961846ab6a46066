pub mod Name
pub mod Table
pub mod Vars
pub mod Branches
pub mod Segments
pub mod Expand
pub mod Config
pub mod Asked
