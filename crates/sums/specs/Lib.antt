-- The sums of the normal equations. Assumes nothing.
pub mod Products
pub mod ProductLaws
pub mod Inner
pub mod Pages
pub mod Partly
pub mod PageLaws
pub mod Kept
pub mod KeptLaws
