-- The list of exchanges that the program replays, and whole exchanges by computing. Assumes nothing.
pub mod Exchanges
pub mod Causes
pub mod List
