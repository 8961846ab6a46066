pub mod Answers
pub mod Found
pub mod Last
pub mod NoteFile
pub mod Notes
pub mod Once
pub mod Program
