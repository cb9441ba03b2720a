pub mod Examined
pub mod Told
pub mod OneReply
