pub mod Language
pub mod Planning
