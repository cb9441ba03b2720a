pub mod DrawingLaws
pub mod DrawnGraph
pub mod Finding
pub mod FoundGraph
