pub mod Learning
pub mod NoteBytes
pub mod Telling
