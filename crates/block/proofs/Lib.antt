-- The laws that the functions' proofs share.
pub mod Chosen
