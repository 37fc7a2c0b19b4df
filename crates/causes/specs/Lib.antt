-- The exchange of the program that says why. Assumes nothing.
pub mod Lines
pub mod LineLaws
pub mod Limits
pub mod Exchange
pub mod Cases
pub mod Promises
pub mod ReadBack
pub mod Unique
pub mod Examples
pub mod Cut
