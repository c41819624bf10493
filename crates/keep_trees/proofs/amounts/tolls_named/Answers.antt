use Rattle.std.proofs.Common.{rules, ◌≡◌, true, refl, sym, subst₂, ap, ◌∙◌, arith, to_z, of_z, w64}
use Rattle.std.proofs.lemmas.Result.{err_from_is_err_and}
use Rattle.sqlite_value.specs.declared.value.Value.TheVariants.{Int}
use Rattle.sqlite_value.specs.Order.{Row, column}
use Rattle.sqlite_pages.specs.Calls.{FailsFor}
use Rattle.sqlite_store.specs.Db.{trees_in}
use Rattle.keep_trees.specs.Pages.{our_trees}
use Rattle.keep_trees.proofs.SpentLaws.{row_behind, read_of}
use Rattle.sqlite_trees.specs.View.{Finds}
use Rattle.keep_trees.proofs.ResultLaws.{if_so}
use Rattle.keep_trees.proofs.Premise.{table_begins, spent_at, differ, one_found, not_both}
use Rattle.keep_trees.proofs.amounts.tolls_named.Goals as goal

pub returns-in_err-there-clause-done : goal.returns-in_err-there-clause-done
returns-in_err-there-clause-done g c clean o has entry key number =
    let p = err_from_is_err_and c.from_residual.result c.from_residual.ensures.1 in
    rw (p.1, p.2) ((c.in_err-there.ensures.done (omega arith)) 1 has.holds.db (spent_at has) refl)

pub returns-then-not-there-clause-done : goal.returns-then-not-there-clause-done
returns-then-not-there-clause-done g c clean o has entry key number =
    let size = g.P.Pages.size c.args.pages.now in
    let pages = g.P.Pages.pages c.args.pages.now in
    let behind =
    row_behind c.args.day c.args.vid c.args.xway o _ _
    (differ has) has.holds.office.tables.rows_are has.holds.indexed entry key in
    let id = to_z w64 (of_z w64 c.args.number) in
    let whole : id ≡ c.args.number = search rules in
    let is : column behind.row 0 ≡ Int id =
    ap (λ (z : Row). column z 0) behind.is ∙ number ∙ ap Int (sym whole) in
    let one =
    one_found (trees_in size our_trees pages 1) behind.row c.find_row.new.row id c.in_ok-there.there behind.at is
    ((c.in_ok-there.ensures.done (omega arith)) 1 has.holds.db (spent_at has) refl) in
    absurd (not_both one.0 c.if-not-there.true)

pub returns-clause-done : goal.returns-clause-done
returns-clause-done g c clean o has entry key number =
    let size = g.P.Pages.size c.args.pages.now in
    let pages = g.P.Pages.pages c.args.pages.now in
    let behind =
    row_behind c.args.day c.args.vid c.args.xway o _ _
    (differ has) has.holds.office.tables.rows_are has.holds.indexed entry key in
    let id = to_z w64 (of_z w64 c.args.number) in
    let whole : id ≡ c.args.number = search rules in
    let is : column behind.row 0 ≡ Int id =
    ap (λ (z : Row). column z 0) behind.is ∙ number ∙ ap Int (sym whole) in
    let one =
    one_found (trees_in size our_trees pages 1) behind.row c.find_row.new.row id c.in_ok-there.there behind.at is
    ((c.in_ok-there.ensures.done (omega arith)) 1 has.holds.db (spent_at has) refl) in
    read_of c.args.day c.args.vid c.args.xway o _ _
    (differ has) has.holds.office.tables.rows_are has.holds.indexed entry
    c.find_row.new.row behind c.tolls_at.result
    (FailsFor g.P.Pages c.args.pages.now c.find_row.new.pages ⊥) has.holds.office.fits.rows
    (sym one.1) c.tolls_at.ensures

pub returns-clause-honest : goal.returns-clause-honest
returns-clause-honest g c clean db are =
    let rows = trees_in (g.P.Pages.size c.args.pages.now) our_trees (g.P.Pages.pages c.args.pages.now) 1 in
    let whole : to_z w64 (of_z w64 c.args.number) ≡ c.args.number = search rules in
    let finds : Finds rows c.args.number c.find_row.new.row true =
    subst₂ (λ n f. Finds rows n c.find_row.new.row f) whole c.if-not-there.false
    ((c.in_ok-there.ensures.done clean) 1 db (table_begins are) refl) in
    if_so c.tolls_at.result _ _ _ c.tolls_at.ensures (λ tolls columns. (c.find_row.new.row, finds, columns))
