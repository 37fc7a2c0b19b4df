-- Why a term of a fit was kept or not. Assumes nothing.
pub mod Cause
pub mod Codes
pub mod Sizes
pub mod Calls
pub mod Unique
pub mod Truth
pub mod Sharp
pub mod Seen
pub mod Examples
