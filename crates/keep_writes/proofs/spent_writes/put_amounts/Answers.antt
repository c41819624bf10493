use Rattle.std.proofs.Common.{[], ◌∷◌, ◌++◌, ◌+◌, ℕ, List, map, take, drop, get_or, sym, subst, ◌∙◌, arith}
use Rattle.std.proofs.lemmas.List.{take_more}
use Rattle.std.specs.List.{AllByRecursion}
use Rattle.sqlite_keyed.proofs.ListLemmas.{all-append}
use Rattle.road_time.specs.declared.day.SpentRow.{SpentRow}
use Rattle.keep_tables.specs.Stands.{FitsSpent}
use Rattle.sqlite.specs.Held.{state}
use Rattle.sqlite.specs.State.{HasCleanDisk}
use Rattle.sqlite.proofs.StateLemmas.{survives_then}
use Rattle.keep_tables.specs.Steps.{AddsAmounts}
use Rattle.keep_tables.proofs.SpentWriteLaws.{adds_then}
use Rattle.keep_tables.proofs.PutLaws.{shows_then}
use Rattle.keep_tables.proofs.StepLaws.{kept_then}
use Rattle.sqlite_value.specs.Order.{Row}
use Rattle.keep_writes.specs.Causes.{RefusedInside}
use Rattle.keep_writes.specs.Runs.{RanAll}
use Rattle.keep_writes.specs.Writes.{amount_text}
use Rattle.keep_writes.proofs.RunLaws.{amounts_next, amounts_cut}
use Rattle.keep_writes.proofs.CauseLaws.{err_handed, kept_inside, inside_after, inside_first}
use Rattle.keep_writes.proofs.spent_writes.put_amounts.Goals as goal

pub rows-preserved : goal.rows-preserved
rows-preserved g c =
    let old = state g.S.Store c.args.tx.now.conn.now in
    let mid = state g.S.Store c.rows.tx.conn.now in
    let new = state g.S.Store c.put_amount.new.tx.conn.now in
    let kept = c.rows.invariant in
    let none : SpentRow = record { day = 0; vid = 0; xway = 0; tolls = 0 } in
    let row = get_or c.args.rows.now c.rows.row-index none in
    let one : AllByRecursion FitsSpent
    (get_or c.args.rows.now c.rows.row-index (record { day = 0; vid = 0; xway = 0; tolls = 0 }) ∷ []) =
    (c.put_amount.ensures.fits, tt) in
    let before = λ (clean : HasCleanDisk new). let h : HasCleanDisk mid =
    omega (arith, c.put_amount.ensures.survives.clean) in h in
    let more =
    take_more c.args.rows.now c.rows.row-index (record { day = 0; vid = 0; xway = 0; tolls = 0 })
    c.rows-test.true in (
      c.put_amount.ensures.same_reference ∙ kept.0,
      survives_then old mid new (λ _. ⊥) (λ _. ⊥) (λ _. ⊥) (λ _ db none. none) (λ _ db none. none) kept.1
          c.put_amount.ensures.survives,
      λ clean inside. (c.in_ok-put_amount.ensures.inside clean (kept.2 (before clean) inside)).mode
          ∙ kept.2 (before clean) inside,
      λ clean here inside. shows_then old mid new (kept.3 (before clean) here inside)
          (c.in_ok-put_amount.ensures.inside clean (kept.2 (before clean) inside)),
      λ clean inside schema.
          let so_far = kept.4 (before clean) inside schema in
          subst (AddsAmounts old.now new.now) (sym more)
          (adds_then old.now mid.now new.now _ _ so_far
          (c.in_ok-put_amount.ensures.adds clean (kept.2 (before clean) inside) so_far.schema)),
      subst (AllByRecursion FitsSpent) (sym more)
          (all-append FitsSpent (take c.rows.row-index c.args.rows.now)
          (get_or c.args.rows.now c.rows.row-index (record { day = 0; vid = 0; xway = 0; tolls = 0 }) ∷ []) kept.5 one),
      λ clean inside. kept_then old mid new (kept.6 (before clean) inside)
          (kept_inside mid new (c.in_ok-put_amount.ensures.inside clean (kept.2 (before clean) inside))),
      λ clean inside.
          subst (λ (l : List SpentRow). RanAll g.S.Store (map amount_text l) c.args.tx.now.conn.now
          c.put_amount.new.tx.conn.now) (sym more)
          (amounts_next g.S.Store (take c.rows.row-index c.args.rows.now) row c.args.tx.now.conn.now
          c.rows.tx.conn.now c.put_amount.new.tx.conn.now (kept.7 (before clean) inside)
          (c.in_ok-put_amount.ensures.ran clean (kept.2 (before clean) inside))),
    )

pub returns-in_err-put_amount-clause-refused : goal.returns-in_err-put_amount-clause-refused
returns-in_err-put_amount-clause-refused g c clean inside =
    let mid = state g.S.Store c.rows.tx.conn.now in
    let kept = c.rows.invariant in
    let early : HasCleanDisk mid = omega (arith, c.put_amount.ensures.survives.clean) in
    let none : SpentRow = record { day = 0; vid = 0; xway = 0; tolls = 0 } in
    let row = get_or c.args.rows.now c.rows.row-index none in
    err_handed c.from_residual.result c.in_err-put_amount.field-0.0 _ c.from_residual.ensures.1
    (subst (λ (l : List (List ℕ × Row)). RefusedInside g.S.Store l c.args.tx.now.conn.now
    c.put_amount.new.tx.conn.now c.in_err-put_amount.field-0.0)
    (sym (amounts_cut c.args.rows.now c.rows.row-index none c.rows-test.true))
    (inside_first g.S.Store (map amount_text (take c.rows.row-index c.args.rows.now) ++ amount_text row ∷ [])
    (map amount_text (drop (c.rows.row-index + 1) c.args.rows.now)) c.args.tx.now.conn.now
    c.put_amount.new.tx.conn.now _
    (inside_after g.S.Store (map amount_text (take c.rows.row-index c.args.rows.now)) (amount_text row ∷ [])
    c.args.tx.now.conn.now c.rows.tx.conn.now c.put_amount.new.tx.conn.now _ (kept.7 early inside)
    (kept.6 early inside) kept.1 (c.in_err-put_amount.ensures.refused clean (kept.2 early inside)))))
