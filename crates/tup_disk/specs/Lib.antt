pub mod Jobs
pub mod Marked
pub mod Place
pub mod Sum
pub mod Told
