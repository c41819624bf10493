use Rattle.std.proofs.Common.{◌≡◌, ◌++◌, List, length}
use Rattle.road_time.specs.declared.day.SpentRow.{SpentRow}
use Rattle.road_rules.proofs.PaymentLaws.{Pays}
use Rattle.road_rules.proofs.payments.Payments.of.Given as goal

abbrev pub invariant-loop-row : goal.invariant-loop-row
invariant-loop-row l = (done : List SpentRow) × (l.left ++ done ≡ l.history) × Pays l.amounts.entries done

abbrev pub decreases-loop-row : goal.decreases-loop-row
decreases-loop-row l = length l.left
