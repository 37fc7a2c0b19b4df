-- What reading an input promises. Assumes nothing.
pub mod Read
