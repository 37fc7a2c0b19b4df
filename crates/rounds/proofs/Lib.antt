-- Laws that the proofs of the rounds share. Assumes nothing.
pub mod Turns
pub mod Look
