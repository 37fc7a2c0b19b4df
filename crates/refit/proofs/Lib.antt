-- Laws that the proofs share.
pub mod Head
pub mod Methods
pub mod Large
pub mod Ends
pub mod Kept
pub mod Joined
