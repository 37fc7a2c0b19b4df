-- What `float64` promises. `Root` has the definitions that compute, `Rule` the root by document 01's own words and the contract of `sqrt`, which says both,
-- `Parts` what the steps of the root hand on, `Table` the rows R1 to R5, `Unique` that a contract leaves one answer.
pub mod Root
pub mod Rule
pub mod Parts
pub mod Table
pub mod Unique
