-- what is spelled is read
pub mod ReadBack
-- and what is read stands there as it is spelled
pub mod SpelledThere
-- so the text of a model is read as that model
pub mod ModelText
