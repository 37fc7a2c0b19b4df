-- What the solvers' proofs share, over plain values. Assumes nothing.
pub mod Ends
