-- Days of which every refused line is named.
pub mod Checked
pub mod Checking
-- How a day is read: one tuple ahead, in the order of Time, up to its end or to the first refused line.
pub mod Lines
pub mod Readings
pub mod Days
pub mod Pieces
pub mod Ahead
