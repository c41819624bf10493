use Rattle.std.proofs.Common.{rules, ◌≡◌, ℕ, inl, inr, IfOk, true, refl, sym, ap, subst, subst₂, ◌∙◌, arith, to_z, of_z}
use Rattle.std.proofs.Common.{w64, IsTrue}
use Rattle.std.proofs.lemmas.Result.{err_from_is_err_and}
use Rattle.sqlite_value.specs.declared.value.Value.TheVariants.{Int}
use Rattle.sqlite_value.specs.Order.{Row, column}
use Rattle.sqlite_trees.specs.Tree.{has_rowid}
use Rattle.sqlite_trees.specs.View.{Finds, is_int}
use Rattle.sqlite_store.specs.Db.{IsDb, roots_of, trees_in}
use Rattle.keep_trees.specs.Finds.{HasKey, HasColumns, amount_key}
use Rattle.keep_trees.specs.Pages.{our_trees, root_list}
use Rattle.keep_trees.proofs.SpentLaws.{row_behind, none_paid}
use Rattle.keep_trees.proofs.Premise.{key_begins, key_at, differ, is_numbered, not_both, moved}
use Rattle.sqlite_pages.specs.PageMap.{PageMap}
use Rattle.sqlite_btree.specs.Cut.{IsIn}
use Rattle.sqlite_btree.proofs.Results.{so_ok}
use Rattle.keep_trees.proofs.Members.{of_filter}
use Rattle.keep_trees.proofs.ResultLaws.{if_then}
use Rattle.keep_trees.proofs.amounts.amount.Goals as goal

pub returns-in_err-found-clause-done : goal.returns-in_err-found-clause-done
returns-in_err-found-clause-done g c clean o has =
    let p = err_from_is_err_and c.from_residual-in_err-found.result c.from_residual-in_err-found.ensures.1 in
    rw (p.1, p.2) ((c.in_err-found.ensures.done (omega arith)) 2 has.holds.db (key_at has) refl)

pub returns-then-not-found-clause-done : goal.returns-then-not-found-clause-done
returns-then-not-found-clause-done g c clean o has =
    let key : c.set_key.new.key ≡ amount_key c.args.day c.args.vid c.args.xway = c.in_ok-set_key.ensures in
    none_paid c.args.day c.args.vid c.args.xway o _ _ (differ has) has.holds.office.tables.rows_are has.holds.indexed
    (subst₂ (λ (k : Row) f. HasKey (trees_in (g.P.Pages.size c.args.pages.now) our_trees
    (g.P.Pages.pages c.args.pages.now) 2) k c.find_key.new.row f)
    key c.if-not-found.true ((c.in_ok-found.ensures.done (omega arith)) 2 has.holds.db (key_at has) refl))

pub returns-in_err-number-clause-done : goal.returns-in_err-number-clause-done
returns-in_err-number-clause-done g c clean o has =
    let size = g.P.Pages.size c.args.pages.now in
    let pages = g.P.Pages.pages c.args.pages.now in
    let key : c.set_key.new.key ≡ amount_key c.args.day c.args.vid c.args.xway = c.in_ok-set_key.ensures in
    let found =
    subst₂ (λ (k : Row) f. HasKey (trees_in size our_trees pages 2) k c.find_key.new.row f) key c.if-not-found.false
    ((c.in_ok-found.ensures.done (omega arith)) 2 has.holds.db (key_at has) refl) in
    let behind =
    row_behind c.args.day c.args.vid c.args.xway o _ _ (differ has) has.holds.office.tables.rows_are has.holds.indexed
    c.find_key.new.row found in
    let number = is_numbered has behind.row behind.at in
    let same : column behind.row 0 ≡ column c.find_key.new.row 3 = ap (λ (z : Row). column z 0) behind.is in
    absurd (not_both (subst (λ v. IsTrue (is_int v)) same number) c.in_err-number.ensures.1)

pub returns-clause-done : goal.returns-clause-done
returns-clause-done g c clean o has =
    let size = g.P.Pages.size c.args.pages.now in
    let pages = g.P.Pages.pages c.args.pages.now in
    let key : c.set_key.new.key ≡ amount_key c.args.day c.args.vid c.args.xway = c.in_ok-set_key.ensures in
    let found =
    subst₂ (λ (k : Row) f. HasKey (trees_in size our_trees pages 2) k c.find_key.new.row f) key c.if-not-found.false
    ((c.in_ok-found.ensures.done (omega (arith, c.tolls_named.ensures.kept.clean))) 2 has.holds.db (key_at has) refl) in
    let id = to_z w64 (of_z w64 c.in_ok-number.number) in
    let whole : id ≡ c.in_ok-number.number = search rules in
    let still =
    moved (sym c.find_key.ensures.kept.same_size) (sym c.find_key.ensures.pages) has in
    let got =
    (c.tolls_named.ensures.done (omega arith)) o still c.find_key.new.row
    (subst₂ (λ n m. HasKey (trees_in n our_trees m 2)
    (amount_key c.args.day c.args.vid c.args.xway) c.find_key.new.row true)
    (sym c.find_key.ensures.kept.same_size) (sym c.find_key.ensures.pages) found)
    (c.in_ok-number.ensures ∙ ap Int (sym whole)) in
    so_ok c.tolls_named.result _ _ _ _ _ ⊥ ⊥ c.find_key.ensures.kept.more_faults (λ h. h) got (λ tolls h. h)

pub returns-then-not-found-clause-honest : goal.returns-then-not-found-clause-honest
returns-then-not-found-clause-honest g c clean db are =
    let key : c.set_key.new.key ≡ amount_key c.args.day c.args.vid c.args.xway = c.in_ok-set_key.ensures in
    inr (
      refl,
      subst₂ (λ (k : Row) f. HasKey (trees_in (g.P.Pages.size c.args.pages.now) our_trees
          (g.P.Pages.pages c.args.pages.now) 2) k c.find_key.new.row f)
          key c.if-not-found.true ((c.in_ok-found.ensures.done clean) 2 db (key_begins are) refl),
    )

pub returns-clause-honest : goal.returns-clause-honest
returns-clause-honest g c clean db are =
    let id = to_z w64 (of_z w64 c.in_ok-number.number) in
    let rows = trees_in (g.P.Pages.size c.args.pages.now) our_trees (g.P.Pages.pages c.args.pages.now) 1 in
    let told =
    subst₂ (λ (n : ℕ) (m : PageMap). IsDb n our_trees m → roots_of n our_trees m ≡ root_list c.args.roots
    → IfOk c.tolls_named.result
    (λ tolls. (found : Row) × Finds (trees_in n our_trees m 1) id found true
    × HasColumns found c.args.day c.args.vid c.args.xway tolls))
    c.find_key.ensures.kept.same_size c.find_key.ensures.pages (c.tolls_named.ensures.honest clean) in
    if_then c.tolls_named.result _ _ (told db are)
    (λ tolls row.
    inl (row.0, (of_filter (has_rowid id) rows row.0 (subst (IsIn row.0) (sym row.1) (inl refl))).0, row.2))
