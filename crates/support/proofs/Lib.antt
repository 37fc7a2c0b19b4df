-- What the code's bit operations do to the terms of a word.
pub mod Masks
