pub mod ParseKind
pub mod Blank
pub mod Line
pub mod Covers
pub mod Word
pub mod Parts
pub mod Spans
