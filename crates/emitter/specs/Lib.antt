pub mod Limits
pub mod Built
