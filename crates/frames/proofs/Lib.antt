pub mod Written
pub mod Whole
pub mod Letters
pub mod RoundTrip
pub mod Ends
pub mod Turns
pub mod At
pub mod Stores
