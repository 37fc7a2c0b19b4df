-- What the proofs share. Assumes nothing.
mod Rows
mod Column
