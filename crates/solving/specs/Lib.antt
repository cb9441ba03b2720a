pub mod Promise
pub mod Rounds
pub mod OneReply
