pub mod Starting
pub mod SameWords
pub mod ReadModel
pub mod Examining
