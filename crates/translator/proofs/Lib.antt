pub mod Answered
pub mod Built
pub mod LineBound
pub mod Shown
