-- Cholesky. Assumes nothing.
pub mod Cholesky
pub mod Refuses
