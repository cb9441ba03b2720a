-- the definitions tried on samples
pub mod Computed
pub mod Substituted
pub mod Quantifiers
pub mod Steps
pub mod Core
pub mod States
pub mod RightSides
pub mod Correct
-- the model is well-formed
pub mod SoundSides
pub mod Sound
-- one summand more
pub mod Looser
