-- the definitions
pub mod Modals
pub mod Inputs
pub mod InputFrames
pub mod Sheet
-- the definitions tried on samples
pub mod Samples
-- what is read of an `08` is as it is spelled
pub mod ModalRead
-- a frame that keeps the rules is the frame of what was read of it
pub mod FramesSpelled
-- the frames of a text that is not refused are those of its process and its formula
pub mod Content
