-- What is kept of the rows read so far. Assumes nothing.
pub mod Taken
