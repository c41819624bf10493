-- Lemmas of the four lanes, the table of words, the rounds and the hasher.

mod Majority
mod LaneLemmas
mod TableLemmas
mod BlockLemmas
mod HeldLemmas
