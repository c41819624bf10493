-- How tuples wait for their turn: by Time, and those of one second in the order in which they came.
use Rattle.std.specs.Prelude.{◌≡◌, ℕ, ◌<◌, List, [], ◌∷◌, Option, Some, None}
use Rattle.std.specs.List.{AllByRecursion}
use Rattle.std.specs.Map.{values_of}
use Rattle.road_time.specs.declared.road.Tuple.{Tuple}
use Rattle.road_time.specs.Tuples.{time_of}
use Rattle.tuples_text.specs.declared.waiting.WaitingTurn.{WaitingTurn}

-- each tuple waits at its Time, and came before the next one that will come
abbrev pub Keyed : ℕ → List (WaitingTurn × Tuple) → Type 0
Keyed count turns = AllByRecursion (λ e. (e.0.time ≡ time_of e.1) × (e.0.number < count)) turns

-- the tuples that wait: the only one, or those of the turns
abbrev pub waiting_of : Option Tuple → List (WaitingTurn × Tuple) → List Tuple
waiting_of None turns = values_of turns
waiting_of (Some only) turns = only ∷ []

-- where one waits alone, no turn is taken
abbrev pub IsAlone : Option Tuple → List (WaitingTurn × Tuple) → Type 0
IsAlone None turns = Unit {0}
IsAlone (Some only) turns = turns ≡ []

-- each tuple has its turn, but one that waits alone
pub record HasTurns (only : Option Tuple) (count : ℕ) (turns : List (WaitingTurn × Tuple)) : Type 0 where
  pub keyed : Keyed count turns
  pub alone : IsAlone only turns
