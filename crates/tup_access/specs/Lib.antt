pub mod Access
pub mod Judge
pub mod Verdict
pub mod Generated
pub mod Written
pub mod Refusal
pub mod Answered
pub mod Inputs
