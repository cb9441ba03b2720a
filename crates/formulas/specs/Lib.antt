pub mod Codes
pub mod Decode
pub mod Shapes
pub mod Bodies
pub mod Ends
pub mod Tuples
pub mod Contract
pub mod OneReply
