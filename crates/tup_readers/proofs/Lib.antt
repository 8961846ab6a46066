pub mod Entries
pub mod Filtering
pub mod Keeping
pub mod Adding
pub mod Asking
pub mod Listing
pub mod Suspecting
pub mod Using
