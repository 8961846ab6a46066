pub mod Macros
pub mod Gifts
