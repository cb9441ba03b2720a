pub mod Looked
pub mod Alone
pub mod OneReply
