pub mod Edited
pub mod Fitting
pub mod Linking
