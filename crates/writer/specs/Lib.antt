-- The lines of an answer. Assumes nothing.
pub mod Answer
pub mod Lines
