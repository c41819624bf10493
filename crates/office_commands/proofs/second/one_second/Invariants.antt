use Rattle.std.proofs.Common.{◌≡◌, ◌+◌, ◌-◌, ◌≤◌, List, ℕ, length}
use Rattle.road_io.specs.Plans.{NeverFails}
use Rattle.road_io.specs.Cutter.{ahead, line_of}
use Rattle.ways_audit.specs.Seconds.{still, count_in}
use Rattle.office_commands.specs.declared.difference.Difference.{Difference}
use Rattle.office_commands.specs.Entries.{HasReadEntries}
use Rattle.office_commands.specs.Listings.{IsReady}
use Rattle.office_commands.specs.Turns.{Onward, ListsSecond}
use Rattle.office_commands.proofs.second.one_second.Given as goal

abbrev pub invariant-loop-left : goal.invariant-loop-left
invariant-loop-left g l = record {
  told : (all : List Difference) (behind : Onward) →
      ListsSecond all l.initial.list.items l.run behind (length l.run) (count_in l.run) l.initial.spot.line
      l.initial.spot.entry (line_of l.initial.cutter) (ahead l.initial.cutter (g.A.Source.left l.initial.aside)) →
      ListsSecond all l.list.items l.run behind l.left (still l.coming) l.spot.line l.spot.entry (line_of l.cutter)
      (ahead l.cutter (g.A.Source.left l.aside));
  read : (bytes : List ℕ) →
      HasReadEntries (ahead l.initial.cutter (g.A.Source.left l.initial.aside)) l.initial.spot.line bytes →
      HasReadEntries (ahead l.cutter (g.A.Source.left l.aside)) l.spot.line bytes;
  few : length l.list.items ≤ l.most;
  more : length l.initial.list.items ≤ length l.list.items;
  fewer : l.left ≤ length l.run;
  line : l.spot.line + l.left + length l.initial.list.items
      ≤ l.initial.spot.line + length l.run + length l.list.items;
  ready : IsReady l.spot.entry l.cutter l.spot.line;
  stands : g.A.Source.faults l.aside ≡ g.A.Source.faults l.initial.aside;
  still : NeverFails (g.A.Source.plan l.initial.aside) → NeverFails (g.A.Source.plan l.aside);
}

abbrev pub decreases-loop-left : goal.decreases-loop-left
decreases-loop-left g l = l.left + (l.most - length l.list.items)
