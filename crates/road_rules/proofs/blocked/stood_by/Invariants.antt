use Rattle.std.proofs.Common.{◌≡◌, ℕ, ◌≤◌, ◌<◌, false}
use Rattle.road_time.specs.Stops.{has_accident}
use Rattle.road_rules.specs.Halts.{halting}
use Rattle.road_rules.proofs.blocked.stood_by.Given as goal

abbrev pub invariant-loop-second : goal.invariant-loop-second
invariant-loop-second l = (t : ℕ) → l.start ≤ t → t < l.second → has_accident (halting l.some.items t) l.stretch ≡ false
