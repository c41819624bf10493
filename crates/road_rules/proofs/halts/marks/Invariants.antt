use Rattle.std.proofs.Common.{◌≡◌, ℕ, nat_eq, reverse, take}
use Rattle.std.specs.HashMap.{get}
use Rattle.road_time.specs.Tuples.{reports}
use Rattle.road_time.specs.Stops.{last_seen}
use Rattle.road_rules.specs.Halts.{of_vehicle, marks_of}
use Rattle.road_rules.proofs.halts.marks.Given as goal

abbrev pub invariant-loop-tuple : goal.invariant-loop-tuple
invariant-loop-tuple l = record {
  made : reverse l.marks.items ≡ marks_of (reverse (reports (take l.tuple-index l.tuples)));
  seen : (v : ℕ) → get nat_eq l.seen v ≡ last_seen (of_vehicle v (reverse (reports (take l.tuple-index l.tuples))));
}
