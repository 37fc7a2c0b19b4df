-- The words that supports are spoken of in, their laws, and that each answer of `support` is the only one.
pub mod Word
pub mod WordLaws
pub mod SupportLaws
pub mod CountLaws
pub mod SubsetLaws
pub mod TermLaws
pub mod Unique
