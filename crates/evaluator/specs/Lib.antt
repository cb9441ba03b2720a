pub mod Values
pub mod Replies
pub mod Folds
pub mod OneReply
