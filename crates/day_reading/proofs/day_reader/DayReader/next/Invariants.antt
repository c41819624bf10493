use Rattle.std.proofs.Common.{◌≡◌, ◌+◌, ◌-◌, ◌≤◌, None, List, ℕ}
use Rattle.road_time.specs.declared.road.Tuple.{Tuple}
use Rattle.road_time.specs.declared.day.Limits.{Limits}
use Rattle.road_io.specs.Plans.{NeverFails}
use Rattle.road_io.specs.Cutter.{line_number}
use Rattle.day_reading.specs.Readings.{IsReading, IsGathering, HasReadOf}
use Rattle.day_reading.proofs.day_reader.DayReader.next.Given as goal

abbrev pub invariant-loop-tuple : goal.invariant-loop-tuple
invariant-loop-tuple g l = record {
  open_is : l.self.end ≡ None;
  limit : l.self.intake.line_limit ≡ l.initial.self.intake.line_limit;
  reading : (limits : Limits) (late : ℕ) (bytes : List ℕ) (given : List Tuple) →
      IsReading l.initial.self limits late (g.S.Source.left l.initial.source) bytes given →
      IsReading l.self limits late (g.S.Source.left l.source) bytes given;
  gathering : (limits : Limits) (late : ℕ) (given : List Tuple) → IsGathering l.initial.self limits late given →
      IsGathering l.self limits late given;
  read : (lines : ℕ) (bytes : List ℕ) → HasReadOf l.initial.self lines (g.S.Source.left l.initial.source) bytes →
      HasReadOf l.self lines (g.S.Source.left l.source) bytes;
  digested : l.self.consumed.digested ≡ l.initial.self.consumed.digested;
  same : g.S.Source.name l.source ≡ g.S.Source.name l.initial.source;
  stands : g.S.Source.faults l.source ≡ g.S.Source.faults l.initial.source;
  still : NeverFails (g.S.Source.plan l.initial.source) → NeverFails (g.S.Source.plan l.source);
}

abbrev pub decreases-loop-tuple : goal.decreases-loop-tuple
decreases-loop-tuple g l = l.self.intake.line_limit + 1 - line_number l.self.cutter
