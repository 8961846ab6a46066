pub mod Openings
pub mod Tables
pub mod Settings
pub mod Joined
pub mod Laws
pub mod ConfigLines
pub mod Named
