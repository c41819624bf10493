-- Texts of tuples and notices as code reads them, why a line is refused, and how late tuples are sorted.

pub mod Causes
pub mod Fields
pub mod Uses
pub mod Ends
pub mod Candidates
pub mod Recents
pub mod Gates
pub mod Turns
pub mod Sorting
