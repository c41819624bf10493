-- Texts of what is kept and of a day's accidents: lists, statements, exports and sums.

pub mod AccidentLog
pub mod Charges
pub mod DayLists
pub mod Endings
pub mod Exports
pub mod Spans
pub mod Statements
