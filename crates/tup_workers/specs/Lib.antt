pub mod Told
pub mod ToldLaws
pub mod Works
