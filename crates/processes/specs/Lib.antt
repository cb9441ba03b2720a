pub mod SummandTests
pub mod Ends
pub mod Contract
pub mod Kept
pub mod OneReply
