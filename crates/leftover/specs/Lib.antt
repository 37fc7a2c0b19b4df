-- The leftover error of a fit. Assumes nothing.
pub mod Error
pub mod Fits
