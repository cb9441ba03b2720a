pub mod Emitted
pub mod Steps
pub mod Told
