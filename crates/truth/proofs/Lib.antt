mod Flips
pub mod Digits
mod RowWords
pub mod Bits
pub mod Words
pub mod RowLaws
pub mod OneReply
