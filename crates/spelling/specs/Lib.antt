-- the definitions
pub mod Spelled
-- bytes that stand at a place
pub mod Stands
-- and what is read stands there as it is spelled
pub mod SpelledThere
-- so the text of a model is read as that model
pub mod ModelText
