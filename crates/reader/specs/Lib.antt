-- The frames of an input. Assumes nothing.
pub mod Header
pub mod Frames
pub mod Numbers
