use Rattle.std.proofs.Common.{◌≡◌, ◌++◌, ◌∷◌, [], ℕ, map, get_or, sym, ap, subst, refl, ◌∙◌}
use Rattle.std.specs.List.{AllByRecursion}
use Rattle.std.specs.BTreeMap.{insert_entry}
use Rattle.std.specs.declared.cmp.Ordering.TheVariants.{Less}
use Rattle.std.proofs.lemmas.List.{take_more}
use Rattle.road_time.specs.declared.day.SpentRow.{SpentRow}
use Rattle.keep_office.specs.Office.{row_cmp}
use Rattle.day_past.specs.declared.amounts.Key.{Key}
use Rattle.day_past.specs.contracts.amounts.KeyOrd.TheImpl as key_order
use Rattle.day_past.specs.Rows.{amount_of}
use Rattle.day_past.proofs.AmountLaws.{insert_last}
use Rattle.day_past.proofs.RisingLaws.{below_place}
use Rattle.day_past.proofs.amounts.keyed.mapped.Goals as goal

-- keys are in the order of rows
same : (k q : Key) (v w : ℕ) → key_order.cmp-value.it k q ≡ row_cmp (amount_of (k, v)) (amount_of (q, w))
same k q v w = refl

pub rows-preserved : goal.rows-preserved
rows-preserved c = λ rise.
    let none : SpentRow = record { day = 0; vid = 0; xway = 0; tolls = 0 } in
    let i = c.rows.row-index in
    let row = get_or c.args.rows.now i none in
    let k : Key = record { day = row.day; vid = row.vid; xway = row.xway } in
    let so_far = c.rows.invariant rise in
    let e : c.insert.new.self.entries ≡ insert_entry key_order.cmp-value.it c.rows.by_key.entries k row.tolls =
    c.in-Ok.ensures.entries in
    let below = subst (AllByRecursion (λ s. row_cmp s row ≡ Less)) (sym so_far)
    (below_place c.args.rows.now i none rise c.rows-test.true) in
    ap (map amount_of) e ∙ insert_last key_order.cmp-value.it same c.rows.by_key.entries k row.tolls below
    ∙ ap (λ xs. xs ++ row ∷ []) so_far ∙ sym (take_more c.args.rows.now i none c.rows-test.true)
