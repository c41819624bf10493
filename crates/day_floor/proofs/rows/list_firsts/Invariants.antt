use Rattle.std.proofs.Common.{◌≡◌, ◌++◌}
use Rattle.day_floor.specs.Sums.{listed}
use Rattle.day_floor.specs.Entries.{firsts}
use Rattle.day_floor.proofs.rows.list_firsts.Given as goal

abbrev pub invariant-loop-vid : goal.invariant-loop-vid
invariant-loop-vid l = l.rows.items ++ listed l.day (firsts l.vid-iterator) ≡ l.fn.rows.items ++ listed l.day
    (firsts l.vehicles.entries)
