pub mod Answered
pub mod Reached
pub mod Stores
