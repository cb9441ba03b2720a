pub mod Bodies
pub mod Models
pub mod SystemLaws
pub mod Numbers
pub mod GraphLaws
