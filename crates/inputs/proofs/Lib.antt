-- the definitions tried on samples
pub mod Samples
-- a frame that keeps the rules is the frame of what was read of it
pub mod FramesSpelled
-- the frames of a text that is not refused are those of its process and its formula
pub mod Content
-- laid out, they are a sheet of that process and formula
pub mod SheetLaws
