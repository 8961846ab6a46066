pub mod Marks
pub mod Numbers
pub mod Lines
pub mod Unread
pub mod Logs
