use Rattle.std.proofs.Common.{rules, ◌≡◌, ℕ, map, nat_lt, refl, sym, subst}
use Rattle.std.specs.List.{filter}
use Rattle.keep_office.specs.Office.{RowsRise, row_cmp}
use Rattle.day_past.specs.contracts.amounts.KeyOrd.TheImpl as key_order
use Rattle.day_past.specs.declared.amounts.Key.{Key}
use Rattle.day_past.specs.Rows.{amount_of}
use Rattle.day_past.proofs.AmountLaws.{rows_rise}
use Rattle.day_past.proofs.RisingLaws.{some_rise}
use Rattle.day_past.proofs.amounts.keyed.listed.Goals as goal

-- keys are in the order of rows
same : (k q : Key) (v w : ℕ) → key_order.cmp-value.it k q ≡ row_cmp (amount_of (k, v)) (amount_of (q, w))
same k q v w = refl

pub returns-clause-rise : goal.returns-clause-rise
returns-clause-rise c =
    let es = c.args.by_key.now.entries in
    let value : c.loop-key.rows.items ≡ filter (λ r. nat_lt 0 r.tolls) (map amount_of es) = search rules in
    let rise =
    some_rise (λ r. nat_lt 0 r.tolls) (map amount_of es)
    (rows_rise key_order.cmp-value.it same es c.into_iter-key-iterator.ensures.into_iter_gives.5) in
    subst RowsRise (sym value) rise
