-- A keeper that others may call between two calls.
pub mod Calls
pub mod Tries
pub mod History
pub mod Seats
-- What the desk answers: of what is kept, of the live board, and of a day that is posted.
pub mod Answers
pub mod Days
pub mod Pages
pub mod Imports
pub mod Reading
pub mod Shared
pub mod Streams
pub mod Desk
pub mod Live
pub mod Sessions
pub mod Clerks
