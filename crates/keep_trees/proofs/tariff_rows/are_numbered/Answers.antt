use Rattle.std.proofs.Common.{◌↔◌, ◌∙◌, ℕ, pos, negsuc, IsTrue, refl, sym, subst, subst₂, arith}
use Rattle.std.proofs.lemmas.Result.{err_from_is_err_and}
use Rattle.sqlite_pages.specs.PageMap.{PageMap}
use Rattle.sqlite_btree.proofs.Results.{within_limit}
use Rattle.sqlite_trees.specs.declared.store.Shape.TheVariants.{Table}
use Rattle.sqlite_store.specs.Db.{IsLaid, rows_at, trees_in}
use Rattle.sqlite_store.proofs.DbLemmas.{named_laid, ordered}
use Rattle.sqlite_btree.specs.Chain.{Layout}
use Rattle.keep_trees.specs.Pages.{our_trees}
use Rattle.keep_trees.specs.Finds.{EndBefore, BeginAfter}
use Rattle.keep_trees.proofs.Premise.{not_both, tariffs_at, tariffs_begin}
use Rattle.keep_trees.proofs.TreeReads.{table_shows}
use Rattle.keep_trees.proofs.NumberLaws.{all_xways, tariffs_end, tariffs_begin_after}
use Rattle.keep_trees.proofs.tariff_rows.are_numbered.Goals as goal

pub returns-in_err-begins-clause-done : goal.returns-in_err-begins-clause-done
returns-in_err-begins-clause-done g c clean o has =
    let p = err_from_is_err_and c.from_residual.result c.from_residual.ensures.1 in
    rw (p.1, p.2)
    (c.in_err-begins.ensures.done (omega arith) (has.holds.db.layouts 6) (named_laid has.holds.db (tariffs_at has)))

pub returns-then-not-begins-clause-done : goal.returns-then-not-begins-clause-done
returns-then-not-begins-clause-done g c clean o has =
    let size = g.P.Pages.size c.args.pages.now in
    let rows = rows_at size (g.P.Pages.pages c.args.pages.now) Table c.args.roots.tariffs in
    let are = sym (table_shows (tariffs_at has) refl) ∙ has.holds.office.tables.tariffs_are in
    let begins : IsTrue c.in_ok-begins.begins ↔ BeginAfter rows (negsuc 0) =
    c.in_ok-begins.ensures.done (omega arith) (has.holds.db.layouts 6) (named_laid has.holds.db (tariffs_at has)) in
    absurd (not_both (begins.1 (subst (λ l. BeginAfter l (negsuc 0)) (sym are) (tariffs_begin_after o.tariffs)))
    c.if-not-begins.true)

pub returns-in_err-ends-clause-done : goal.returns-in_err-ends-clause-done
returns-in_err-ends-clause-done g c clean o has =
    let p = err_from_is_err_and c.from_residual-in_err-ends.result c.from_residual-in_err-ends.ensures.1 in
    let laid =
    subst₂ (λ (n : ℕ) (m : PageMap). IsLaid n m (has.holds.db.layouts 6) Table c.args.roots.tariffs)
    (sym c.begins_after.ensures.kept.same_size) (sym c.begins_after.ensures.pages)
    (named_laid has.holds.db (tariffs_at has)) in
    let cause = c.in_err-ends.ensures.done (omega arith) (has.holds.db.layouts 6) laid in
    rw (p.1, p.2) (within_limit _ _ _ ⊥ _ c.begins_after.ensures.kept.more_faults cause)

pub returns-clause-done : goal.returns-clause-done
returns-clause-done g c clean o has =
    let are = sym (table_shows (tariffs_at has) refl) ∙ has.holds.office.tables.tariffs_are in
    let seek =
    subst₂ (λ (n : ℕ) (m : PageMap). (layout : Layout) → IsLaid n m layout Table c.args.roots.tariffs
    → IsTrue c.in_ok-ends.ends ↔ EndBefore (rows_at n m Table c.args.roots.tariffs) (pos 256))
    c.begins_after.ensures.kept.same_size c.begins_after.ensures.pages (c.in_ok-ends.ensures.done (omega arith)) in
    let ends = seek (has.holds.db.layouts 6) (named_laid has.holds.db (tariffs_at has)) in
    ends.1 (subst (λ l. EndBefore l (pos 256)) (sym are) (tariffs_end o.tariffs has.holds.office.fits.tariffs))

pub returns-clause-told : goal.returns-clause-told
returns-clause-told g c clean db are all =
    let size = g.P.Pages.size c.args.pages.now in
    let pages = g.P.Pages.pages c.args.pages.now in
    let rows = rows_at size pages Table c.args.roots.tariffs in
    let shows = table_shows (tariffs_begin are) refl in
    let begins : IsTrue c.in_ok-begins.begins ↔ BeginAfter rows (negsuc 0) =
    c.in_ok-begins.ensures.done (omega (arith, c.ends_before.ensures.kept.clean)) (db.layouts 6)
    (named_laid db (tariffs_begin are)) in
    let seek =
    subst₂ (λ (n : ℕ) (m : PageMap). (layout : Layout) → IsLaid n m layout Table c.args.roots.tariffs
    → IsTrue c.in_ok-ends.ends ↔ EndBefore (rows_at n m Table c.args.roots.tariffs) (pos 256))
    c.begins_after.ensures.kept.same_size c.begins_after.ensures.pages (c.in_ok-ends.ensures.done (omega arith)) in
    let ends = seek (db.layouts 6) (named_laid db (tariffs_begin are)) in
    all_xways (trees_in size our_trees pages 5) (ordered db 5)
    (subst (λ l. BeginAfter l (negsuc 0)) (sym shows) (begins.0 c.if-not-begins.false))
    (subst (λ l. EndBefore l (pos 256)) (sym shows) (ends.0 all))
