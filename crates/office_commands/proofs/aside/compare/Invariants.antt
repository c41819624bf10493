use Rattle.std.proofs.Common.{◌≡◌, ◌+◌, List, ℕ, Some, None}
use Rattle.road_io.specs.Plans.{NeverFails}
use Rattle.road_io.specs.Cutter.{ahead, line_number, fault_of}
use Rattle.office_commands.specs.Entries.{HasReadEntries}
use Rattle.office_commands.proofs.AsideLaws.{LeftBy}
use Rattle.office_commands.proofs.aside.compare.Given as goal

abbrev pub invariant-loop-notice : goal.invariant-loop-notice
invariant-loop-notice g l = record {
  line : l.line ≡ l.notice-index + 1;
  number : line_number l.cutter ≡ l.notice-index;
  none : fault_of l.cutter ≡ None;
  told : (bytes : List ℕ) → g.A.Source.left l.initial.aside ≡ Some bytes →
      LeftBy l.notice-index l.wanted bytes (ahead l.cutter (g.A.Source.left l.aside));
  read : (bytes : List ℕ) → g.A.Source.left l.initial.aside ≡ Some bytes →
      HasReadEntries (ahead l.cutter (g.A.Source.left l.aside)) l.notice-index bytes;
  stands : g.A.Source.faults l.aside ≡ g.A.Source.faults l.initial.aside;
  still : NeverFails (g.A.Source.plan l.initial.aside) → NeverFails (g.A.Source.plan l.aside);
}
