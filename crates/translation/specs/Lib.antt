-- the definitions
pub mod Processes
pub mod Modal
pub mod Rules
pub mod Translation
-- the definitions tried on samples
pub mod Computed
-- laws of the rules, of substitution, of quantifiers, of steps
pub mod RuleLaws
pub mod Quantifiers
pub mod Steps
-- a formula and its equations
pub mod LastFirst
pub mod States
pub mod RightSides
-- the model is well-formed
pub mod SoundSides
-- one summand more
pub mod Looser
