-- What a fit promises beside its call. Assumes nothing.
pub mod Ends
