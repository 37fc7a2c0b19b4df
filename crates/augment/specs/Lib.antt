-- QR's matrix: the rows of theta in it, and the rows below them. Assumes nothing.
pub mod Ridged
pub mod Taken
