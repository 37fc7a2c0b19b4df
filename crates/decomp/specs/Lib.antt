-- What `qr` promises. Assumes nothing.
pub mod Calls
pub mod Sizes
pub mod Unique
