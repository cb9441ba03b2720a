pub mod FoundWords
pub mod Filling
pub mod Shapes
pub mod Gathered
pub mod Side
pub mod OneReply
