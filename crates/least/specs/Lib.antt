-- Least squares. Assumes nothing.
pub mod Least
pub mod Refuses
