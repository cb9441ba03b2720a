pub mod Candidates
pub mod OneReply
