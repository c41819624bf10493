use Rattle.std.proofs.Common.{◌≡◌, ◌≤◌, ◌++◌, List, length, drop}
use Rattle.ways_audit.specs.Seconds.{still}
use Rattle.office_commands.specs.declared.difference.Difference.{Difference}
use Rattle.office_commands.specs.AnyOrder.{missing_at}
use Rattle.office_commands.proofs.second.missing.Given as goal

abbrev pub invariant-loop-notice : goal.invariant-loop-notice
invariant-loop-notice l = record {
  told : (all rest : List Difference) →
      all ≡ l.initial.list.items ++ (missing_at l.line l.found (still l.initial.coming) l.run ++ rest) →
      all ≡ l.list.items ++ (missing_at l.line l.found (still l.coming) (drop l.notice-index l.run) ++ rest);
  few : length l.list.items ≤ l.most;
  more : length l.initial.list.items ≤ length l.list.items;
}
