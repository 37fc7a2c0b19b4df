-- The inverse of a positive definite matrix. Assumes nothing.
pub mod Inverse
pub mod ByColumns
pub mod Refuses
