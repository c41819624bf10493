use Rattle.std.proofs.Common.{◌≡◌, ◌+◌, ◌-◌, ◌≤◌, length, List, ℕ, Some}
use Rattle.road_io.specs.Plans.{NeverFails}
use Rattle.day_reading.specs.Readings.{IsReading, IsGathering, HasReadOf, HasReaderFailed}
use Rattle.day_reading.proofs.whole_day.read_day.Given as goal

abbrev pub invariant-reading : goal.invariant-reading
invariant-reading g l = record {
  gathering : IsGathering l.reader l.limits l.late l.tuples.items;
  reading : (bytes : List ℕ) → g.S.Source.left l.initial.source ≡ Some bytes →
      IsReading l.reader l.limits l.late (g.S.Source.left l.source) bytes l.tuples.items;
  read : (bytes : List ℕ) → g.S.Source.left l.initial.source ≡ Some bytes →
      HasReadOf l.reader l.limits.lines (g.S.Source.left l.source) bytes;
  unfailed : HasReaderFailed l.reader → ⊥;
  digested : l.reader.consumed.digested ≡ l.digested;
  same : g.S.Source.name l.source ≡ g.S.Source.name l.initial.source;
  stands : g.S.Source.faults l.source ≡ g.S.Source.faults l.initial.source;
  still : NeverFails (g.S.Source.plan l.initial.source) → NeverFails (g.S.Source.plan l.source);
}

abbrev pub decreases-reading : goal.decreases-reading
decreases-reading g l = l.limits.lines + 1 - length l.tuples.items
