use Rattle.std.proofs.Common.{◌≡◌, ◌++◌, map, nat_lt}
use Rattle.std.specs.List.{filter}
use Rattle.day_past.specs.Rows.{amount_of}
use Rattle.day_past.proofs.amounts.keyed.listed.Given as goal

abbrev pub invariant-loop-key : goal.invariant-loop-key
invariant-loop-key l = l.rows.items ++ filter (λ r. nat_lt 0 r.tolls) (map amount_of l.key-iterator) ≡ filter
    (λ r. nat_lt 0 r.tolls) (map amount_of l.by_key.entries)
