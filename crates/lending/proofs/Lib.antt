pub mod Lent
pub mod Apart
pub mod Letters
pub mod Agree
pub mod Lists
