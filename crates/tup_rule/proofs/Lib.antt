pub mod Laws
pub mod Same
pub mod Making
