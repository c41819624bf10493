use Rattle.std.proofs.Common.{suc, sym, ap, subst, subst₂, ◌∙◌, arith}
use Rattle.std.proofs.lemmas.Result.{err_from_is_err_and}
use Rattle.sqlite_value.specs.Keys.{plain}
use Rattle.sqlite_trees.specs.View.{IsShaped}
use Rattle.sqlite_trees.specs.Tree.{from_key}
use Rattle.sqlite_btree.specs.Stored.{IsLaidIn}
use Rattle.sqlite_btree.specs.Batch.{IsBatchOf}
use Rattle.sqlite_btree.proofs.Results.{so_ok}
use Rattle.sqlite_store.specs.Db.{record_order, trees_in}
use Rattle.sqlite_store.proofs.OrderLemmas.{strict, probe_before_key}
use Rattle.sqlite_store.proofs.DbLemmas.{index_reads, named_laid, ordered}
use Rattle.keep_trees.specs.Pages.{our_trees}
use Rattle.keep_trees.specs.Walks.{TakesEntry}
use Rattle.keep_trees.proofs.TreeReads.{index_shows}
use Rattle.keep_trees.proofs.WalkLaws.{filled_from, starts}
use Rattle.keep_trees.proofs.walks.first_entry.Goals as goal

pub returns-in_err-fill-clause-done : goal.returns-in_err-fill-clause-done
returns-in_err-fill-clause-done g c clean t db names none =
    let laid = named_laid db names in
    let p = err_from_is_err_and c.from_residual.result c.from_residual.ensures.1 in
    rw (p.1, p.2)
    ((c.in_err-fill.ensures.done (omega arith)) (record_order plain) _ laid.1.0 (strict plain)
    (probe_before_key plain c.args.key.now) laid.0 laid.1.1)

pub returns-clause-done : goal.returns-clause-done
returns-clause-done g c clean t db names none =
    let size = g.P.Pages.size c.args.pages.now in
    let pages = g.P.Pages.pages c.args.pages.now in
    let layout = db.layouts (suc t) in
    let entries = trees_in size our_trees pages t in
    let laid = named_laid db names in
    let filled =
    (c.in_ok-fill.ensures.done (omega (arith, c.take_entry.ensures.kept.clean))) (record_order plain) _ laid.1.0
    (strict plain) (probe_before_key plain c.args.key.now) laid.0 laid.1.1 in
    let from = filled_from c.args.key.now laid.1.0 layout size pages c.fill.new.batch filled in
    let parts = ap (from_key plain c.args.key.now) (index_shows names none ∙ index_reads pages laid.0 laid.1.1)
    ∙ from.1 in
    let took =
    (c.take_entry.ensures.done (omega arith)) layout (subst (IsLaidIn layout) (sym c.fill.ensures.pages) laid.0)
    (subst (λ n. IsBatchOf layout n c.fill.new.batch) (sym c.fill.ensures.kept.same_size) filled.valid) in
    so_ok c.take_entry.result _ _ _ _ _ ⊥ ⊥ c.fill.ensures.kept.more_faults (λ h. h) took
    (λ found so.
    starts layout size pages entries (subst (λ s. IsShaped s entries) names.shape_is (ordered db t)) c.args.key.now
    c.fill.new.batch c.take_entry.new.batch c.args.entry.now c.take_entry.new.entry found from.0 parts from.2
    (subst₂ (λ n m. TakesEntry layout n m c.fill.new.batch c.take_entry.new.batch c.args.entry.now
    c.take_entry.new.entry found)
    c.fill.ensures.kept.same_size c.fill.ensures.pages so))
