-- What the calls answer. Assumes nothing.
pub mod Answers
pub mod Ladder
pub mod Told
pub mod Unique
