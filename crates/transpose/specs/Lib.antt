-- Q-transpose. Assumes nothing.
pub mod Led
pub mod Transpose
