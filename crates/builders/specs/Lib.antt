-- What `jtj` and `jtr` promise. Assumes nothing.
pub mod Calls
pub mod Sizes
pub mod Unique
