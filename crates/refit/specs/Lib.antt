-- What a solve over a support promises. Assumes nothing.
pub mod Parts
pub mod Method
pub mod Placed
