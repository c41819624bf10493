-- How many of the bytes that a call is offered it moves.
use Rattle.std.specs.Prelude.{ℕ, ◌≡◌, ◌≤◌}

-- how many of the bytes that a call is offered it moves, where that is told: at most so many, or all
pub data Portion : Type 0 where
  AnyPart : Portion
  UpTo : ℕ → Portion
  Whole : Portion

-- of so many bytes that were offered, so many were moved
abbrev pub Moves : Portion → ℕ → ℕ → Type 0
Moves AnyPart offered n = Unit {0}
Moves (UpTo most) offered n = n ≤ most
Moves Whole offered n = n ≡ offered
