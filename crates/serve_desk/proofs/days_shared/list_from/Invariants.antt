use Rattle.std.proofs.Common.{◌≡◌, ◌≤◌, ◌-◌, ◌+◌, ◌^◌, ◌⊎◌}
use Rattle.serve_desk.specs.Shared.{ListsFrom}
use Rattle.serve_desk.proofs.days_shared.list_from.Given as goal

abbrev pub invariant-loop-day : goal.invariant-loop-day
invariant-loop-day g l = record {
  few : l.day ≤ 2 ^ 32;
  from : l.first ≤ l.day;
  to : l.day ≤ l.first ⊎ (l.day ≤ l.last + 1);
  lists : ListsFrom g.K.Keeper.told l.first (l.day - l.first) l.days.items;
  still : l.keeper.faults ≡ l.initial.keeper.faults;
}

abbrev pub decreases-loop-day : goal.decreases-loop-day
decreases-loop-day g l = 2 ^ 32 - l.day
