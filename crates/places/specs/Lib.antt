-- How theta is stored, and its columns at the reduced places of a support. Assumes nothing.
pub mod Stored
pub mod Down
pub mod Columns
pub mod ColumnLaws
pub mod Theta
pub mod ThetaLaws
