-- The table of document 01: `Marked` its marked cases, `Fits` and `Solvers` those that catch what these let through, `Damped` those of the third fit, `Errors` those of the squared error, `Columns` those of theta by columns, `Demand3` that demand on F1. Assumes nothing.
pub mod Solvers
pub mod Fits
pub mod Damped
pub mod Errors
pub mod Columns
pub mod Marked
pub mod Demand3
