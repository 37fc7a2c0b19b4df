-- What each step of adding a page of rows to the pair sums leaves. Assumes nothing.
pub mod Grown
pub mod Tiles
pub mod Paged
