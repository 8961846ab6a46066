pub mod Next
pub mod Honest
pub mod Remembered
pub mod Refusal
pub mod Run
pub mod Report
