pub mod Room
pub mod Course
pub mod Marks
pub mod Turn
