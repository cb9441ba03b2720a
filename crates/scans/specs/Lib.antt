pub mod Items
pub mod FixedPoints
pub mod Formulas
pub mod Summands
pub mod Equations
