pub mod CodeSteps
pub mod Marking
pub mod Standing
pub mod Parts
