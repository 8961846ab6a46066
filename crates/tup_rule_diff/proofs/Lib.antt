mod Pushing
mod NewPuts
mod Puts
mod Leaving
mod Whole
mod Covered
mod News
mod Stood
mod Swapping
mod Taking
mod Numbered
mod Looked
mod Owning
mod Reading
mod Kept
mod Asking
mod Placing
pub mod Led
