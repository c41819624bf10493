use Rattle.std.proofs.Common.{◌≡◌, ◌≤◌, take}
use Rattle.road_time.specs.Order.{greatest_time}
use Rattle.road_rules.proofs.mishaps.last_second.Given as goal

abbrev pub invariant-loop-tuple : goal.invariant-loop-tuple
invariant-loop-tuple l = record {
  day : l.last ≤ 86399;
  exact : l.last ≡ greatest_time (take l.tuple-index l.tuples);
}
