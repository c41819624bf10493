-- An office as it is read from the pages of its file: searches, walks, and what they give.

pub mod Pages
pub mod Finds
pub mod Walks
pub mod Rows
pub mod Gives
pub mod Days
pub mod Own
pub mod Tells
pub mod Tolls
