use Rattle.std.proofs.Common.{◌≡◌, ◌+◌, ◌≤◌, List, ℕ, length}
use Rattle.road_io.specs.Plans.{NeverFails}
use Rattle.road_io.specs.Cutter.{ahead, line_of}
use Rattle.office_commands.specs.declared.difference.Difference.{Difference}
use Rattle.office_commands.specs.Entries.{HasReadEntries}
use Rattle.office_commands.specs.Listings.{IsReady}
use Rattle.office_commands.specs.Turns.{ListsSeconds}
use Rattle.office_commands.proofs.any_order.all_seconds.Given as goal

abbrev pub invariant-loop-rest : goal.invariant-loop-rest
invariant-loop-rest g l = record {
  told : (all : List Difference) →
      ListsSeconds all l.initial.list.items l.wanted l.initial.spot.line l.initial.spot.entry (line_of l.initial.cutter)
      (ahead l.initial.cutter (g.A.Source.left l.initial.aside)) →
      ListsSeconds all l.list.items l.rest l.spot.line l.spot.entry (line_of l.cutter)
      (ahead l.cutter (g.A.Source.left l.aside));
  read : (bytes : List ℕ) → HasReadEntries (ahead l.initial.cutter (g.A.Source.left l.initial.aside)) 1 bytes →
      HasReadEntries (ahead l.cutter (g.A.Source.left l.aside)) l.spot.line bytes;
  few : length l.list.items ≤ l.most;
  shorter : length l.rest ≤ length l.wanted;
  line : l.spot.line + length l.rest ≤ 1 + length l.wanted + length l.list.items;
  ready : IsReady l.spot.entry l.cutter l.spot.line;
  stands : g.A.Source.faults l.aside ≡ g.A.Source.faults l.initial.aside;
  still : NeverFails (g.A.Source.plan l.initial.aside) → NeverFails (g.A.Source.plan l.aside);
}

abbrev pub decreases-loop-rest : goal.decreases-loop-rest
decreases-loop-rest g l = length l.rest
