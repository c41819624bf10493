use Rattle.std.proofs.Common.{◌≡◌, length, All}
use Rattle.day_floor.specs.Slots.{found_of}
use Rattle.road_time.specs.Day.{no_finding}
use Rattle.ways_audit.proofs.placing.new_places.Given as goal

abbrev pub invariant-loop : goal.invariant-loop
invariant-loop l = record {
  many : length l.places.items ≡ l.counter;
  nothing : All (λ p. p ≡ found_of no_finding) l.places.items;
}
