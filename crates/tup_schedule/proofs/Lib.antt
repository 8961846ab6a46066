pub mod Rooms
pub mod Courses
pub mod Going
pub mod Views
pub mod Kept
pub mod Sent
mod MarksLaws
pub mod TurnLaws
