pub mod Accounts
pub mod Folds
pub mod Looking
