pub mod Near
pub mod Plan
