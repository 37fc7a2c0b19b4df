-- Laws that the proof shares. Assumes nothing.
pub mod First
