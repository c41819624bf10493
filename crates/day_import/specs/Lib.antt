-- How a day is worked, in rounds or in turns: tuples are fed, jobs go out and come back, and it is settled.
pub mod Tasks
pub mod Published
pub mod Fronts
pub mod DayFaults
pub mod AskedRounds
pub mod Readers
pub mod Watching
pub mod Halts
pub mod Days
pub mod RoundRuns
pub mod Rounds
pub mod WorkedDays
pub mod Turns
pub mod Drawn
pub mod PlannedRounds
pub mod Outcomes
-- What importing a day comes to: stored, kept already, passed, refused or failed, with what is written and left.
pub mod Asked
pub mod Faults
pub mod Imports
pub mod Runs
pub mod Stages
pub mod Laws
pub mod Planned
