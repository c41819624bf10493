use Rattle.std.proofs.Common.{◌≡◌, ◌≤◌, ◌-◌, ◌^◌, Some}
use Rattle.std.specs.List.{AllByRecursion}
use Rattle.keep_office.specs.Office.{Office}
use Rattle.serve_desk.specs.Days.{days_below}
use Rattle.serve_desk.proofs.kept_days.days_from.Given as goal

abbrev pub invariant-loop-day : goal.invariant-loop-day
invariant-loop-day g l = record {
  few : l.day ≤ 2 ^ 32;
  told : (o : Office) → g.K.Keeper.told l.initial.keeper ≡ Some o → g.K.Keeper.told l.keeper ≡ Some o;
  found : (o : Office) → g.K.Keeper.told l.initial.keeper ≡ Some o → AllByRecursion (λ r. l.first ≤ r.day) o.days
      → l.days.items ≡ days_below l.day o.days;
  still : g.K.Keeper.faults l.keeper ≡ g.K.Keeper.faults l.initial.keeper;
}

abbrev pub decreases-loop-day : goal.decreases-loop-day
decreases-loop-day g l = 2 ^ 32 - l.day
