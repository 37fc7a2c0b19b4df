-- The solvers. Assumes nothing.
pub mod Calls
pub mod Sizes
pub mod Unique
pub mod Columns
