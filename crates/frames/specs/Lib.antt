-- The exchange of the bench program. Assumes nothing.
pub mod Limits
pub mod Exchange
pub mod Cases
pub mod Layouts
pub mod InDigits
pub mod ReadBack
pub mod Unique
pub mod Examples
pub mod Cut
