-- The commands of the office: what each writes, keeps, uses and ends with.

pub mod Closings
pub mod Traffic
pub mod Days
pub mod Asides
pub mod Entries
pub mod Differences
pub mod AnyOrder
pub mod Turns
pub mod Listings
pub mod Commands
pub mod DayCommands
pub mod ComparedDays
pub mod Uses
pub mod Faults
pub mod Endings
pub mod Rests
pub mod Sums
pub mod Starts
-- What a run promises, object by object
pub mod Ran
