-- What vehicles owe on a day: charges added up, the book that holds them, and what a board shows of it.
pub mod Sums
pub mod Firsts
pub mod Entries
pub mod Books
pub mod Operations
pub mod Boards
pub mod Shown
pub mod AccountsLaws
-- Where each vehicle was last, and what its next report tells of its stays, its stops and its charges.
pub mod Runs
pub mod Told
pub mod Stands
pub mod Sightings
pub mod CrossingsLaws
-- What becomes of tuples whose findings are back: they are charged, told, answered and published, in order.
pub mod Slots
pub mod SettlingBooks
pub mod Answers
pub mod Asking
pub mod TextDigests
pub mod Printing
pub mod Faults
pub mod SettlingBoards
pub mod SettlingRuns
pub mod Closes
pub mod SettlingLaws
-- A floor: what was fed to it, which jobs are out, what came back, and the mark up to which it is settled.
pub mod Terms
pub mod Shares
pub mod Steps
pub mod Sound
pub mod Jobs
pub mod Starts
pub mod Written
pub mod Turns
pub mod Desks
pub mod Floors
pub mod Laws
