pub mod Symbol
pub mod Read
pub mod Match
pub mod Fit
pub mod Part
pub mod Cut
pub mod Spelling
