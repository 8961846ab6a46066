pub mod Count
pub mod Gives
pub mod Name
pub mod Order
pub mod Tree
pub mod Resolve
pub mod Show
pub mod Body
