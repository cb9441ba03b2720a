pub mod FoundWordsLaws
pub mod Noting
pub mod Adding
pub mod ShapeLaws
pub mod Repeats
pub mod GatheringLaws
pub mod SideLaws
