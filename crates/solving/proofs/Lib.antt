pub mod Agreement
pub mod SolvedMeaning
pub mod StepLaws
pub mod RoundsLaws
