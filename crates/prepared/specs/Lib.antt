pub mod Decoded
pub mod Prepared
pub mod OneReply
