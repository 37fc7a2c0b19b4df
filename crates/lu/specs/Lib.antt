-- LU. Assumes nothing.
pub mod Lu
pub mod Refuses
