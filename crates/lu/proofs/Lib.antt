-- The ways out of the solve. Assumes nothing.
mod Ends
mod Swaps
