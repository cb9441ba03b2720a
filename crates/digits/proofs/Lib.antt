pub mod Table
pub mod WorthTable
pub mod Pairs
pub mod Filled
pub mod Written
pub mod Letters
