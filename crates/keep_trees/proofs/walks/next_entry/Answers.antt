use Rattle.std.proofs.Common.{suc, sym, ap, subst, subst₂, ◌∙◌, arith}
use Rattle.std.proofs.lemmas.Result.{err_from_is_err_and}
use Rattle.sqlite_value.specs.Keys.{plain, entry_cmp}
use Rattle.sqlite_record.specs.Record.{decode}
use Rattle.sqlite_btree.specs.Cut.{from_cut}
use Rattle.sqlite_store.specs.Sides.{up_to_or_above}
use Rattle.sqlite_value.specs.Order.{Row}
use Rattle.sqlite_trees.specs.View.{IsShaped}
use Rattle.sqlite_trees.specs.declared.store.Shape.TheVariants.{Index}
use Rattle.sqlite_btree.specs.Stored.{IsLaidIn, IsIndex, as_record}
use Rattle.sqlite_btree.specs.Batch.{IsBatchOf, IsFilled}
use Rattle.sqlite_btree.proofs.Results.{so_ok, within_limit}
use Rattle.sqlite_store.specs.Cursor.{rows_after}
use Rattle.sqlite_store.specs.Db.{record_order, trees_in}
use Rattle.sqlite_store.proofs.OrderLemmas.{strict, probe_after}
use Rattle.sqlite_store.proofs.DbLemmas.{index_reads, named_laid, ordered}
use Rattle.keep_trees.specs.Pages.{our_trees}
use Rattle.keep_trees.specs.Walks.{TakesEntry}
use Rattle.keep_trees.proofs.TreeReads.{index_shows}
use Rattle.keep_trees.proofs.WalkLaws.{filled_behind, goes_on, goes_over}
use Rattle.keep_trees.proofs.walks.next_entry.Goals as goal

pub returns-in_err-take_entry-clause-done : goal.returns-in_err-take_entry-clause-done
returns-in_err-take_entry-clause-done g c clean t db names none ahead =
    let p = err_from_is_err_and c.from_residual.result c.from_residual.ensures.1 in
    rw (p.1, p.2) ((c.in_err-take_entry.ensures.done (omega arith)) (db.layouts (suc t))
    (named_laid db names).0 ahead.valid)

pub returns-then-branch-clause-done : goal.returns-then-branch-clause-done
returns-then-branch-clause-done g c clean t db names none ahead =
    let size = g.P.Pages.size c.args.pages.now in
    let pages = g.P.Pages.pages c.args.pages.now in
    let layout = db.layouts (suc t) in
    let entries = trees_in size our_trees pages t in
    goes_on layout size pages entries (subst (λ s. IsShaped s entries) names.shape_is (ordered db t)) c.args.batch.now
    c.take_entry.new.batch c.args.entry.now c.take_entry.new.entry ahead
    (subst (TakesEntry layout size pages c.args.batch.now c.take_entry.new.batch c.args.entry.now
    c.take_entry.new.entry)
    c.if-branch.true ((c.in_ok-take_entry.ensures.done (omega arith)) layout (named_laid db names).0 ahead.valid))

pub returns-in_err-fill-clause-done : goal.returns-in_err-fill-clause-done
returns-in_err-fill-clause-done g c clean t db names none ahead =
    let laid = named_laid db names in
    let size_is = c.take_entry.ensures.kept.same_size in
    let pages_are = c.take_entry.ensures.pages in
    let p = err_from_is_err_and c.from_residual-in_err-fill.result c.from_residual-in_err-fill.ensures.1 in
    let cause =
    (c.in_err-fill.ensures.done (omega arith)) (record_order plain) (db.layouts (suc t)) laid.1.0 (strict plain)
    (probe_after plain c.take_entry.new.entry) (subst (IsLaidIn (db.layouts (suc t))) (sym pages_are) laid.0)
    (subst (λ n. IsIndex (record_order plain) n (db.layouts (suc t)) c.args.root laid.1.0) (sym size_is) laid.1.1) in
    rw (p.1, p.2) (within_limit _ _ _ ⊥ _ c.take_entry.ensures.kept.more_faults cause)

pub returns-clause-done : goal.returns-clause-done
returns-clause-done g c clean t db names none ahead =
    let size = g.P.Pages.size c.args.pages.now in
    let pages = g.P.Pages.pages c.args.pages.now in
    let layout = db.layouts (suc t) in
    let entries = trees_in size our_trees pages t in
    let laid = named_laid db names in
    let size_is = c.take_entry.ensures.kept.same_size in
    let pages_are = c.take_entry.ensures.pages in
    let nothing =
    subst (TakesEntry layout size pages c.args.batch.now c.take_entry.new.batch c.args.entry.now c.take_entry.new.entry)
    c.if-branch.false
    ((c.in_ok-take_entry.ensures.done (omega (arith, c.fill.ensures.kept.clean, c.take_entry-2.ensures.kept.clean)))
    layout laid.0
    ahead.valid) in
    let filled =
    subst₂ (λ n m. IsFilled as_record
    (from_cut (λ x. up_to_or_above (entry_cmp plain (decode x) c.args.entry.now)) laid.1.0) layout n m
    c.fill.new.batch)
    size_is pages_are
    (subst (λ (e : Row). IsFilled as_record
    (from_cut (λ x. up_to_or_above (entry_cmp plain (decode x) e)) laid.1.0) layout
    (g.P.Pages.size c.take_entry.new.pages) (g.P.Pages.pages c.take_entry.new.pages) c.fill.new.batch) nothing.2
    ((c.in_ok-fill.ensures.done (omega (arith, c.take_entry-2.ensures.kept.clean))) (record_order plain) layout laid.1.0
    (strict plain) (probe_after plain c.take_entry.new.entry) (subst (IsLaidIn layout) (sym pages_are) laid.0)
    (subst (λ n. IsIndex (record_order plain) n layout c.args.root laid.1.0) (sym size_is) laid.1.1))) in
    let from = filled_behind c.args.entry.now laid.1.0 layout size pages c.fill.new.batch filled in
    let parts =
    ap (rows_after (Index plain) c.args.entry.now) (index_shows names none ∙ index_reads pages laid.0 laid.1.1)
    ∙ from.1 in
    let size_then = c.fill.ensures.kept.same_size ∙ size_is in
    let pages_then = c.fill.ensures.pages ∙ pages_are in
    let took =
    (c.take_entry-2.ensures.done (omega arith)) layout (subst (IsLaidIn layout) (sym pages_then) laid.0)
    (subst (λ n. IsBatchOf layout n c.fill.new.batch) (sym size_then) filled.valid) in
    so_ok c.take_entry-2.result _ _ _ _ _ ⊥ ⊥
    (omega (arith, c.take_entry.ensures.kept.more_faults, c.fill.ensures.kept.more_faults)) (λ h. h) took
    (λ found so.
    goes_over layout size pages entries (subst (λ s. IsShaped s entries) names.shape_is (ordered db t)) c.fill.new.batch
    c.take_entry-2.new.batch c.args.entry.now c.take_entry.new.entry c.take_entry-2.new.entry found from.0 parts from.2
    (subst₂ (λ n m. TakesEntry layout n m c.fill.new.batch c.take_entry-2.new.batch c.take_entry.new.entry
    c.take_entry-2.new.entry found)
    size_then pages_then so))
