pub mod Fields
pub mod FieldLaws
pub mod Spelling
pub mod Reading
