use Rattle.std.proofs.Common.{◌≡◌, take}
use Rattle.road_time.specs.Tuples.{reports}
use Rattle.road_time.specs.Log.{places_of}
use Rattle.road_rules.proofs.mishaps.places.Given as goal

abbrev pub invariant-loop-tuple : goal.invariant-loop-tuple
invariant-loop-tuple l = l.places.keys ≡ places_of (reports (take l.tuple-index l.tuples))
