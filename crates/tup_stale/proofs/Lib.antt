mod Looked
pub mod Removals
pub mod Going
mod Forgotten
mod Cleared
pub mod Crashes
