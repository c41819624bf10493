use Rattle.std.proofs.Common.{◌≡◌, ◌≤◌, ◌+ℤ◌, pos, ℕ, ℤ, List, [], ◌∷◌, length, take, get_or, sym, ap, subst, ◌∙◌}
use Rattle.std.proofs.Common.{to_z, of_z, w64, arith, rules}
use Rattle.std.specs.List.{AllByRecursion}
use Rattle.std.proofs.lemmas.List.{take_more}
use Rattle.sqlite_keyed.proofs.ListLemmas.{all-append}
use Rattle.sqlite_trees.specs.declared.store.Shape.{Shape}
use Rattle.sqlite_trees.specs.View.{IsClean, IsShaped}
use Rattle.road_time.specs.declared.day.SpentRow.{SpentRow}
use Rattle.keep_tables.specs.Stands.{FitsSpent}
use Rattle.keep_puts.specs.Trees.{AreOurs}
use Rattle.keep_puts.specs.Steps.{AreBelow, AddsKept}
use Rattle.keep_puts.specs.Puts.{PutsFrom}
use Rattle.keep_puts.proofs.PutLaws.{counted, put_more}
use Rattle.keep_puts.proofs.AmountLaws.{amount_adds, adds_more, counted_on}
use Rattle.keep_puts.proofs.amounts.put_from.Goals as goal

pub put_amount-requires-clause-shapes : goal.put_amount-requires-clause-shapes
put_amount-requires-clause-shapes g c = subst AreOurs (sym c.rows.invariant.4.shape) c.requires.shapes

pub rows-preserved : goal.rows-preserved
rows-preserved g c =
    let old = g.S.Store.view c.args.store.now in
    let mid = g.S.Store.view c.rows.store in
    let new = g.S.Store.view c.put_amount.new.store in
    let kept = c.rows.invariant in
    let none : SpentRow = record { day = 0; vid = 0; xway = 0; tolls = 0 } in
    let row = get_or c.args.rows.now c.rows.row-index none in
    let before = λ (clean : IsClean new). let h : IsClean mid = omega (arith, c.put_amount.ensures.quiet.clean) in h in
    let whole : to_z w64 (of_z w64 c.in-Some.next) ≡ c.in-Some.next = search rules in
    let more = take_more c.args.rows.now c.rows.row-index none c.rows-test.true in (
      search rules,
      λ clean below.
          let so_far = kept.1 (before clean) below in
          let shaped = subst (λ s. IsShaped s (mid.trees 1))
          (ap (λ (f : ℕ → Shape). f 1) kept.4.shape ∙ c.requires.shapes.spent)
          (g.met.S.Store.ordered c.rows.store (c.in_ok-put_amount.ensures.sound clean) 1) in
          let step = amount_adds mid.trees new.trees (to_z w64 c.rows.number-bits) row shaped so_far.1
          (c.in_ok-put_amount.ensures.puts clean) in (
            subst (AddsKept old.trees new.trees) (sym more)
                (adds_more old.trees mid.trees new.trees (take c.rows.row-index c.args.rows.now) (row ∷ [])
                so_far.0 step.0),
            subst (λ (n : ℤ). AreBelow n (new.trees 1)) (sym (whole ∙ c.in-Some.ensures.1)) step.1,
          ),
      subst (AllByRecursion FitsSpent) (sym more)
          (all-append FitsSpent (take c.rows.row-index c.args.rows.now) (row ∷ []) kept.2
          (c.put_amount.ensures.fits, tt)),
      whole ∙ c.in-Some.ensures.1 ∙ ap (λ (n : ℤ). n +ℤ pos 1) kept.3 ∙ counted_on _ c.rows.row-index,
      search rules,
      search rules,
      λ clean below.
          let so_far = kept.1 (before clean) below in
          let low : c.rows.row-index ≤ length c.args.rows.now = omega (arith, c.rows-test.true) in
          let first = to_z w64 (of_z w64 c.args.first) in
          let number = to_z w64 c.rows.number-bits in
          subst (λ (l : List SpentRow). PutsFrom first l old.trees new.trees) (sym more)
          (put_more first (take c.rows.row-index c.args.rows.now) row number old.trees mid.trees new.trees
          (counted first number c.rows.row-index c.args.rows.now low kept.3) so_far.1 (kept.6 (before clean) below)
          (c.in_ok-put_amount.ensures.puts clean)),
    )
