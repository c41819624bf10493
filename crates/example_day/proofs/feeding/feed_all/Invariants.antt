use Rattle.std.proofs.Common.{◌≡◌, take}
use Rattle.day_floor.specs.Shares.{start}
use Rattle.day_floor.specs.Floors.{Setting, width_of, limits_of, StandsFor}
use Rattle.example_day.specs.Turns.{after_fed}
use Rattle.example_day.proofs.feeding.feed_all.Given as goal

abbrev pub invariant-loop-tuple : goal.invariant-loop-tuple
invariant-loop-tuple l = record {
  width : width_of l.floor ≡ width_of l.fn.floor;
  limits : limits_of l.floor ≡ limits_of l.fn.floor;
  fed : (g : Setting) → StandsFor g l.fn.floor start →
      StandsFor g l.floor (after_fed (width_of l.fn.floor) start (take l.tuple-index l.tuples));
}
