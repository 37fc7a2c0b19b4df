-- Laws of the lines of the causes, and what is proved of the answers. Assumes nothing.
pub mod Telling
pub mod Promises
pub mod InDigits
pub mod ReadBack
pub mod Layouts
