-- What is promised of the fit rule and the three fits.
pub mod Course
pub mod LastLook
pub mod Stable
pub mod Shrinking
pub mod Dropped
pub mod Refuses
pub mod Endings
pub mod Made
pub mod SameFit
pub mod Layouts
pub mod Errors
pub mod Promises
pub mod Demand3
