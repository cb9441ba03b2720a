pub mod Writing
pub mod Printed
pub mod OneReply
