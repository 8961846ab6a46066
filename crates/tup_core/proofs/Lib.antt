pub mod Changed
pub mod Orderly
mod Places
pub mod Counted
mod Settled
mod Opening
pub mod ClaimedOnce
pub mod Standing
pub mod NeverStuck
pub mod Verdicts
pub mod CleanRuns
pub mod AllClaimed
mod InOrder
mod BadLast
pub mod Example
pub mod ItemLaws
mod WalkLaws
mod NearLaws
mod LinksLaws
pub mod WaitingLaws
mod FilesLaws
pub mod Entries
pub mod SeenLaws
mod MachineLaws
pub mod AskLaws
mod StepLaws
mod SameLaws
pub mod ReadingLaws
mod Inputs
