use Rattle.std.proofs.Common.{◌≡◌, ℕ, ◌≤◌, ◌<◌, true}
use Rattle.road_rules.specs.Groups.{stands_with}
use Rattle.road_rules.proofs.mishaps.seconds_from.Given as goal

abbrev pub invariant-loop-second : goal.invariant-loop-second
invariant-loop-second l = (t : ℕ) → l.from ≤ t → t < l.second → stands_with l.halts t ≡ true
