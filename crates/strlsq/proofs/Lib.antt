-- Laws that the proofs of the fits share. Assumes nothing.
pub mod Report
