-- The words that the rules are written in, and their laws. Assumes nothing.
pub mod Num
pub mod Nan
pub mod Cond
pub mod Loops
pub mod Sums
pub mod Table
pub mod Wrote
pub mod Space
pub mod Glue
pub mod Rows
