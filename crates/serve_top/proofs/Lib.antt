pub mod EarLaws
pub mod Law
pub mod Meant
pub mod CrewMoves
