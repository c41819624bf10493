use Rattle.std.proofs.Common.{◌≡◌, ◌+◌, ◌-◌, ◌≤◌, [], List, ℕ, length}
use Rattle.road_io.specs.Plans.{NeverFails}
use Rattle.road_io.specs.Cutter.{ahead, line_of}
use Rattle.office_commands.specs.declared.difference.Difference.{Difference}
use Rattle.office_commands.specs.Entries.{HasReadEntries}
use Rattle.office_commands.specs.Listings.{IsReady, ListsOn}
use Rattle.office_commands.proofs.any_order.lines_over.Given as goal

abbrev pub invariant-loop-spot : goal.invariant-loop-spot
invariant-loop-spot g l = record {
  told : (all : List Difference) →
      ListsOn all l.initial.list.items [] l.initial.spot.line l.initial.spot.entry (line_of l.initial.cutter)
      (ahead l.initial.cutter (g.A.Source.left l.initial.aside)) →
      ListsOn all l.list.items [] l.spot.line l.spot.entry (line_of l.cutter)
      (ahead l.cutter (g.A.Source.left l.aside));
  read : (bytes : List ℕ) →
      HasReadEntries (ahead l.initial.cutter (g.A.Source.left l.initial.aside)) l.initial.spot.line bytes →
      HasReadEntries (ahead l.cutter (g.A.Source.left l.aside))
      (l.initial.spot.line + length l.list.items - length l.initial.list.items) bytes;
  few : length l.list.items ≤ l.most;
  more : length l.initial.list.items ≤ length l.list.items;
  line : l.spot.line + length l.initial.list.items ≤ l.initial.spot.line + length l.list.items;
  ready : IsReady l.spot.entry l.cutter
      (l.initial.spot.line + length l.list.items - length l.initial.list.items);
  stands : g.A.Source.faults l.aside ≡ g.A.Source.faults l.initial.aside;
  still : NeverFails (g.A.Source.plan l.initial.aside) → NeverFails (g.A.Source.plan l.aside);
}

abbrev pub decreases-loop-spot : goal.decreases-loop-spot
decreases-loop-spot g l = l.most - length l.list.items
