pub mod Texts
pub mod Lists
pub mod Names
pub mod Written
pub mod Short
pub mod Fitting
