use Rattle.std.proofs.Common.{take}
use Rattle.road_time.specs.Fits.{IsDay}
use Rattle.road_time.specs.declared.day.TheConstants.Limits.{DAY}
use Rattle.tuples_text.specs.Gates.{StandsFor}
use Rattle.tests_road.proofs.tests.days.is_day.Given as goal

abbrev pub invariant-loop-tuple : goal.invariant-loop-tuple
invariant-loop-tuple l = record {
  stands : StandsFor l.gatekeeper DAY 0 (take l.tuple-index l.tuples);
  fit : IsDay (take l.tuple-index l.tuples);
}
