use Rattle.std.proofs.Common.{◌+◌, ◌-◌, length}
use Rattle.road_time.specs.declared.day.TheConstants.Limits.{DAY}
use Rattle.day_reading.specs.Readings.{IsGathering}
use Rattle.example_day.proofs.reading.read_day.Given as goal

abbrev pub invariant-reading : goal.invariant-reading
invariant-reading g l = record {
  gathering : IsGathering l.reader DAY 0 l.tuples.items;
}

abbrev pub decreases-reading : goal.decreases-reading
decreases-reading g l = DAY.lines + 1 - length l.tuples.items
