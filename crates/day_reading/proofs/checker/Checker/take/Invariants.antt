use Rattle.std.proofs.Common.{◌≡◌, ◌++◌, ℕ, List, length}
use Rattle.road_time.specs.declared.day.Limits.{Limits}
use Rattle.day_reading.specs.Checking.{HasChecked}
use Rattle.day_reading.proofs.checker.Checker.take.Given as goal

-- the front of the piece was taken, and the rest is left
abbrev pub invariant-loop-at : goal.invariant-loop-at
invariant-loop-at l = (limits : Limits) (late : ℕ) (taken : List ℕ) → HasChecked l.initial.self limits late taken →
    (front : List ℕ) × (l.piece ≡ front ++ l.rest) × HasChecked l.self limits late (taken ++ front)

abbrev pub decreases-loop-at : goal.decreases-loop-at
decreases-loop-at l = length l.rest
