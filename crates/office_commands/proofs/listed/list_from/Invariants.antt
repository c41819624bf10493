use Rattle.std.proofs.Common.{◌≡◌, ◌+◌, ◌-◌, ◌≤◌, List, ℕ, length}
use Rattle.road_io.specs.Plans.{NeverFails}
use Rattle.road_io.specs.Cutter.{ahead, line_of}
use Rattle.office_commands.specs.Entries.{HasReadEntries}
use Rattle.office_commands.specs.Differences.{differences}
use Rattle.office_commands.specs.Listings.{IsReady, StandsAt, ListsOn}
use Rattle.office_commands.proofs.listed.list_from.Given as goal

abbrev pub invariant-loop-rest : goal.invariant-loop-rest
invariant-loop-rest g l = record {
  told : (entries : List (List ℕ)) →
      StandsAt l.fn.entry (line_of l.initial.cutter) (ahead l.initial.cutter (g.A.Source.left l.initial.aside)) entries →
      ListsOn (differences l.wanted 1 entries) l.list.items l.rest l.spot.line l.spot.entry (line_of l.cutter)
      (ahead l.cutter (g.A.Source.left l.aside));
  read : (bytes : List ℕ) → HasReadEntries (ahead l.initial.cutter (g.A.Source.left l.initial.aside)) 1 bytes →
      HasReadEntries (ahead l.cutter (g.A.Source.left l.aside))
      (1 + length l.wanted + length l.list.items - length l.rest) bytes;
  few : length l.list.items ≤ l.most;
  shorter : length l.rest ≤ length l.wanted;
  line : l.spot.line + length l.rest ≤ 1 + length l.wanted + length l.list.items;
  ready : IsReady l.spot.entry l.cutter (1 + length l.wanted + length l.list.items - length l.rest);
  stands : g.A.Source.faults l.aside ≡ g.A.Source.faults l.initial.aside;
  still : NeverFails (g.A.Source.plan l.initial.aside) → NeverFails (g.A.Source.plan l.aside);
}

abbrev pub decreases-loop-rest : goal.decreases-loop-rest
decreases-loop-rest g l = length l.rest + (l.most - length l.list.items)
