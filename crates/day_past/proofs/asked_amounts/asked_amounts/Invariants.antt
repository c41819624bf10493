use Rattle.std.proofs.Common.{◌≡◌, ◌+◌, ◌≤◌, List, Some, length}
use Rattle.std.specs.List.{AllByRecursion}
use Rattle.road_time.specs.declared.day.SpentRow.{SpentRow}
use Rattle.road_time.specs.Fits.{IsValid}
use Rattle.road_time.specs.History.{KeysDiffer}
use Rattle.road_io.specs.Plans.{NeverFails}
use Rattle.keep_office.specs.Office.{Office}
use Rattle.day_past.specs.Asks.{count_asks, HasAllAsked, AreRight, HaveAllOf}
use Rattle.day_past.proofs.asked_amounts.asked_amounts.Given as goal

-- what is asked is there as soon as it is there for the tuples that are left
abbrev pub invariant-loop-tuple : goal.invariant-loop-tuple
invariant-loop-tuple g l = record {
  valid : AllByRecursion IsValid l.left;
  right : (o : Office) → g.K.Keeper.told l.initial.keeper ≡ Some o → AreRight o.rows l.rows.items;
  asked : (more : List SpentRow) → HaveAllOf l.rows.items more → HasAllAsked l.number more l.left →
      HasAllAsked l.number more l.tuples;
  keys : KeysDiffer l.rows.items;
  few : length l.rows.items + count_asks l.left ≤ count_asks l.tuples;
  same : g.K.Keeper.told l.keeper ≡ g.K.Keeper.told l.initial.keeper;
  stands : g.K.Keeper.faults l.keeper ≡ g.K.Keeper.faults l.initial.keeper;
  sure : NeverFails (g.K.Keeper.plan l.initial.keeper) → NeverFails (g.K.Keeper.plan l.keeper);
}

abbrev pub decreases-loop-tuple : goal.decreases-loop-tuple
decreases-loop-tuple g l = length l.left
