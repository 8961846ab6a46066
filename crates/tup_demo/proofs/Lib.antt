pub mod Files
mod Stamps
mod Standing
pub mod Passing
pub mod Reading
pub mod Building
