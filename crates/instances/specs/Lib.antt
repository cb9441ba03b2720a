pub mod Sides
pub mod Models
pub mod Graph
pub mod OneReply
