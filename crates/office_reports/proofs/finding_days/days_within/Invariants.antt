use Rattle.std.proofs.Common.{◌≡◌, ◌≤◌, Some}
use Rattle.road_io.specs.Plans.{NeverFails}
use Rattle.keep_office.specs.Office.{Office, IsSound}
use Rattle.office_reports.specs.Spans.{in_span}
use Rattle.office_reports.proofs.finding_days.days_within.Given as goal

abbrev pub invariant-loop-day : goal.invariant-loop-day
invariant-loop-day g l = record {
  kept : g.K.Keeper.told l.keeper ≡ g.K.Keeper.told l.fn.keeper;
  faults : g.K.Keeper.faults l.keeper ≡ g.K.Keeper.faults l.fn.keeper;
  plan : NeverFails (g.K.Keeper.plan l.fn.keeper) → NeverFails (g.K.Keeper.plan l.keeper);
  low : l.fn.from ≤ l.day;
  found : (o : Office) → g.K.Keeper.told l.fn.keeper ≡ Some o → IsSound o →
      l.records.items ≡ in_span (λ r. r.day) l.fn.from l.day o.days;
}
