-- The generator that a seed makes, and what is drawn from it.

pub mod Draws
