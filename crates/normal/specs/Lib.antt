-- The normal equations. Assumes nothing.
pub mod Normal
pub mod Ends
pub mod Refuses
