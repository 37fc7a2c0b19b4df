-- What the exports answer: the numbers of document 01. Assumes nothing.
pub mod Numbered
pub mod Coded
pub mod Unique
