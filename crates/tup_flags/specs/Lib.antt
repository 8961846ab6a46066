pub mod Part
pub mod Shown
pub mod Flag
pub mod Pieces
pub mod Answer
pub mod Expansion
pub mod Laws
