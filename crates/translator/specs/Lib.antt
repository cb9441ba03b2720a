pub mod Answers
pub mod Printed
pub mod Theorems
pub mod Letters
