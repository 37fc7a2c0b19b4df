-- The laws that the functions' proofs share.
pub mod Walks
pub mod Laws
