-- What the proofs cite, on plain numbers and on values. `Rule` has the theorems of the root: it is document 01's, and nothing else is.
mod Square
mod Rounding
mod Digits
mod Pattern
mod Turns
mod Tested
mod Fields
mod Tests
mod Values
mod Ways
mod Magnitude
mod Order
mod Between
mod Form
mod Positive
pub mod Rule
