pub mod Numbers
pub mod OneReply
