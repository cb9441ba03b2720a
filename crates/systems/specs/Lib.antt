pub mod Numbered
pub mod Solved
pub mod Rounds
