mod Folding
mod TermLaws
pub mod FormulaLaws
pub mod AsTruth
