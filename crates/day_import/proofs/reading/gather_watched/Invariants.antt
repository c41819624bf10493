use Rattle.std.proofs.Common.{◌≡◌, ◌≤◌, ◌-◌, ℕ, false, List, Option, length}
use Rattle.road_time.specs.declared.day.Limits.{Limits}
use Rattle.road_io.specs.Plans.{NeverFails}
use Rattle.day_reading.specs.declared.day_ahead.DayAhead.{DayAhead}
use Rattle.day_reading.specs.Ahead.{has_more, HasReadAhead, HasFailedAhead}
use Rattle.day_import.specs.Readers.{HasGiven}
use Rattle.day_import.proofs.reading.gather_watched.Given as goal

abbrev pub invariant-gathering : goal.invariant-gathering
invariant-gathering g l = record {
  given : (limits : Limits) (late : ℕ) (first : DayAhead) (all : Option (List ℕ)) →
      HasGiven limits late l.fn.these.items first l.fn.ahead all (g.S.Source.left l.fn.watched.source.now) →
      HasGiven limits late l.these.items first l.ahead all (g.S.Source.left l.watched.source.now);
  few : length l.fn.these.items ≤ l.count → length l.these.items ≤ l.count;
  longer : length l.fn.these.items ≤ length l.these.items;
  same : length l.these.items ≡ length l.fn.these.items → has_more l.ahead ≡ has_more l.fn.ahead;
  ended : has_more l.fn.ahead ≡ false → (l.these.items ≡ l.fn.these.items) × (has_more l.ahead ≡ false);
  source_same : g.S.Source.name l.watched.source.now ≡ g.S.Source.name l.fn.watched.source.now;
  named : l.watched.source.ghost_name ≡ l.fn.watched.source.ghost_name;
  read : (lines : ℕ) (bytes : List ℕ) → HasReadAhead l.fn.ahead lines (g.S.Source.left l.fn.watched.source.now) bytes →
      HasReadAhead l.ahead lines (g.S.Source.left l.watched.source.now) bytes;
  unfailed : HasFailedAhead l.ahead → ⊥;
  stands : g.S.Source.faults l.watched.source.now ≡ g.S.Source.faults l.fn.watched.source.now;
  still : NeverFails (g.S.Source.plan l.fn.watched.source.now) → NeverFails (g.S.Source.plan l.watched.source.now);
}

abbrev pub decreases-gathering : goal.decreases-gathering
decreases-gathering g l = l.count - length l.these.items
