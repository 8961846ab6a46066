pub mod Kind
pub mod Setting
pub mod Conditional
pub mod Opening
pub mod File
pub mod Reading
pub mod Read
