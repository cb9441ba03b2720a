-- the promises
pub mod Demand1
pub mod Demand2
pub mod Demand3
pub mod Apart
pub mod Letters
-- the definitions tried on the sample models
pub mod Samples
