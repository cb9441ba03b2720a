pub mod Starts
pub mod Refusals
pub mod Drafts
pub mod Finishing
pub mod Turns
pub mod WellFormed
pub mod LineNumbers
