-- Jobs that are out with a crew: their numbers and places, and what the crew tells of them and answers.
pub mod Numbers
pub mod Lists
pub mod Told
pub mod Tellings
pub mod Places
pub mod Entries
pub mod Threads
pub mod Marks
pub mod Callers
-- Helpers that take jobs from cells: the rule of the cells, and what each step at them knows and tells.
pub mod Views
pub mod Cells
pub mod Steps
pub mod Calls
pub mod Boards
pub mod Crews
pub mod Sizes
pub mod Helpers
