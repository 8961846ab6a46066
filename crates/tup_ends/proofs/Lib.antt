pub mod Again
pub mod Completed
pub mod Settled
pub mod Done
pub mod Names
pub mod Due
pub mod Quiet
pub mod Staying
pub mod Blame
pub mod Stated
pub mod Lasting
mod Left
mod Making
mod Nothing
pub mod Unread
mod Room
