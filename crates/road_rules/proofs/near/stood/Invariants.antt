use Rattle.std.proofs.Common.{◌≡◌, ℕ, ◌≤◌, ◌<◌, false}
use Rattle.road_time.specs.Tuples.{reports}
use Rattle.road_time.specs.Stops.{has_accident}
use Rattle.road_time.specs.Tolls.{stops_at}
use Rattle.road_rules.proofs.near.stood.Given as goal

abbrev pub invariant-loop-second : goal.invariant-loop-second
invariant-loop-second l = (t : ℕ) → l.start ≤ t → t < l.second →
    has_accident (stops_at (reports l.tuples) t) l.stretch ≡ false
