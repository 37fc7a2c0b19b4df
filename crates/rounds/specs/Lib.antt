-- What the rounds of a fit promise. Assumes nothing.
pub mod Turned
pub mod Ran
pub mod Ended
