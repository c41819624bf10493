use Rattle.std.proofs.Common.{◌≡◌, ◌++◌}
use Rattle.day_floor.specs.Sums.{listed}
use Rattle.day_floor.proofs.rows.list_further.Given as goal

abbrev pub invariant-loop-owner : goal.invariant-loop-owner
invariant-loop-owner l =
    l.rows.items ++ listed l.day l.owner-iterator ≡ l.fn.rows.items ++ listed l.day l.further.entries
