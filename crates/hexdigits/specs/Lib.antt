-- Hex digits: what they write, what is written, and reading back. Assumes nothing.
pub mod All
pub mod Hex
pub mod Parts
pub mod Put
pub mod ReadBack
