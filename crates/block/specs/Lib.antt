-- A block of kept sums, and a solve of it. Assumes nothing.
pub mod Listed
pub mod Solved
