pub mod Before
pub mod Edits
pub mod Numbered
pub mod Order
pub mod Owners
pub mod Running
