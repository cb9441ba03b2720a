pub mod Laws
pub mod OverLaws
