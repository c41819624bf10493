-- The tables of an office: their texts, their statements, and which office a database stands for.

pub mod Layout
pub mod Texts
pub mod Asks
pub mod Select
pub mod Same
pub mod Codec
pub mod Shown
pub mod Stands
pub mod Tests
pub mod Told
pub mod Amounts
pub mod Steps
pub mod Laws
