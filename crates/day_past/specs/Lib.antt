-- Amounts of earlier days, as far as a day's tuples ask for them.
pub mod Asks
-- A history that is read from a file and kept, or refused at a line.
pub mod Causes
pub mod Rows
pub mod Readings
pub mod Imports
pub mod Asked
pub mod Laws
