pub mod Circling
pub mod Alike
pub mod Making
pub mod Standing
pub mod Given
pub mod Told
