pub mod Nested
pub mod RoundLaws
