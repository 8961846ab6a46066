pub mod Listed
mod Foretold
