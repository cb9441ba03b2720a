pub mod Unpacked
pub mod Counts
pub mod Totals
pub mod OneReply
