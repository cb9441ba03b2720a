pub mod Records
pub mod Promises
pub mod Prepared
pub mod Lent
