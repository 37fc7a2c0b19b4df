-- What the proof of the call shares, and what is proved of the causes: that they are the true ones, and alike by either layout. Assumes nothing.
pub mod Answer
pub mod Looks
pub mod TrueCause
pub mod OnlyCause
pub mod Promises
pub mod TrueCalls
pub mod Layouts
