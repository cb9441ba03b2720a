pub mod Equations
pub mod Models
pub mod Reading
pub mod Records
pub mod Contract
pub mod OneReply
pub mod Letters
