-- The laws that the functions' proofs share.
pub mod Changes
pub mod Puts
pub mod Sofar
