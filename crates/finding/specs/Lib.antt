pub mod Drawn
pub mod Found
pub mod OneReply
