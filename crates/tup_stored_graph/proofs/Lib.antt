pub mod Short
pub mod Crashes
pub mod Committing
pub mod Compacting
pub mod Fresh
pub mod Edited
pub mod Opened
pub mod Lengths
