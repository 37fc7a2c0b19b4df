pub mod Floats
pub mod Runs
pub mod Writing
