use Rattle.std.proofs.Common.{◌≡◌, ◌+◌, ◌-◌, ◌≤◌, None, List, ℕ}
use Rattle.road_time.specs.declared.day.Limits.{Limits}
use Rattle.road_io.specs.Plans.{NeverFails}
use Rattle.road_io.specs.Cutter.{line_number, fault_of}
use Rattle.day_past.specs.Readings.{GathersRows, IsReadingPast, HasReadPastOf}
use Rattle.day_past.proofs.past_reader.PastReader.read_all.Given as goal

abbrev pub invariant-reading : goal.invariant-reading
invariant-reading g l = record {
  few : line_number l.self.cutter ≤ l.limit;
  unbroken : fault_of l.self.cutter ≡ None;
  reading : (limits : Limits) (bytes : List ℕ) → limits.past ≡ l.limit →
      IsReadingPast l.initial.self l.base limits (g.S.Source.left l.initial.source) bytes →
      IsReadingPast l.self l.base limits (g.S.Source.left l.source) bytes;
  gathers : GathersRows l.initial.self.amounts l.base → GathersRows l.self.amounts l.base;
  read : (bytes : List ℕ) → HasReadPastOf l.initial.self (g.S.Source.left l.initial.source) bytes →
      HasReadPastOf l.self (g.S.Source.left l.source) bytes;
  same : g.S.Source.name l.source ≡ g.S.Source.name l.initial.source;
  stands : g.S.Source.faults l.source ≡ g.S.Source.faults l.initial.source;
  still : NeverFails (g.S.Source.plan l.initial.source) → NeverFails (g.S.Source.plan l.source);
}

abbrev pub decreases-reading : goal.decreases-reading
decreases-reading g l = l.limit + 1 - line_number l.self.cutter
