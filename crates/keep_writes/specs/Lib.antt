-- Puts by statements: why one fails, and how failures are counted.
pub mod Writes
pub mod Runs
pub mod Causes
pub mod Counts
-- How the tables of an office are made: from none, or from those of version 1.
pub mod Growth
pub mod Objects
pub mod Unmade
