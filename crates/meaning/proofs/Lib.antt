-- the definitions tried on the slips to rule out
pub mod Counterexamples
pub mod Members
pub mod Sets
pub mod Pigeonhole
-- what equations mean
pub mod FixedPoints
pub mod Systems
pub mod Iteration
pub mod Monotone
pub mod InRange
pub mod Looser
-- what is reached
pub mod Simplified
pub mod Calculations
pub mod GoesRound
pub mod Typed
pub mod Fresh
pub mod Search
pub mod Reached
pub mod Stages
-- the reached instances solved alone, and their words
pub mod Table
pub mod Solving
pub mod WordLaws
