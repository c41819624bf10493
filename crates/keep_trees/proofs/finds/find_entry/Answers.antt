use Rattle.std.proofs.Common.{◌≡◌, true, false, ◌∷◌, suc, sym, ap, subst, ◌∙◌, arith}
use Rattle.std.proofs.Math.Path.{subst₃}
use Rattle.std.proofs.lemmas.Result.{err_from_is_err_and}
use Rattle.sqlite_value.specs.Keys.{plain}
use Rattle.sqlite_record.specs.Record.{decode}
use Rattle.sqlite_record.proofs.AffinityLemmas.{widen-zero}
use Rattle.sqlite_btree.specs.Stored.{IsLaidIn}
use Rattle.sqlite_btree.specs.Batch.{IsBatchOf, TookFirst, taken}
use Rattle.sqlite_btree.proofs.Results.{within_limit}
use Rattle.sqlite_trees.specs.Tree.{from_key}
use Rattle.sqlite_store.specs.Db.{record_order}
use Rattle.sqlite_store.proofs.OrderLemmas.{strict, probe_before_key}
use Rattle.sqlite_store.proofs.DbLemmas.{index_reads, named_laid}
use Rattle.keep_trees.proofs.TreeReads.{index_shows, first_taken}
use Rattle.keep_trees.proofs.finds.find_entry.Goals as goal

pub returns-in_err-fill-clause-done : goal.returns-in_err-fill-clause-done
returns-in_err-fill-clause-done g c clean t db names none =
    let laid = named_laid db names in
    let p = err_from_is_err_and c.from_residual.result c.from_residual.ensures.1 in
    rw (p.1, p.2)
    ((c.in_err-fill.ensures.done (omega arith)) (record_order plain) _ laid.1.0 (strict plain)
    (probe_before_key plain c.args.key.now) laid.0 laid.1.1)

pub returns-in_err-next-clause-done : goal.returns-in_err-next-clause-done
returns-in_err-next-clause-done g c clean t db names none =
    let laid = named_laid db names in
    let filled =
    (c.in_ok-fill.ensures.done (omega (arith, c.next.ensures.kept.clean))) (record_order plain) _ laid.1.0
    (strict plain)
    (probe_before_key plain c.args.key.now) laid.0 laid.1.1 in
    let p = err_from_is_err_and c.from_residual-in_err-next.result c.from_residual-in_err-next.ensures.1 in
    let cause =
    (c.in_err-next.ensures.done (omega arith)) (db.layouts (suc t))
    (subst (IsLaidIn (db.layouts (suc t))) (sym c.fill.ensures.pages) laid.0)
    (subst (λ n. IsBatchOf (db.layouts (suc t)) n c.fill.new.batch) (sym c.fill.ensures.kept.same_size) filled.valid) in
    rw (p.1, p.2) (within_limit _ _ _ ⊥ _ c.fill.ensures.kept.more_faults cause)

pub returns-then-not-branch-clause-done : goal.returns-then-not-branch-clause-done
returns-then-not-branch-clause-done g c clean t db names none =
    let pages = g.P.Pages.pages c.args.pages.now in
    let size = g.P.Pages.size c.args.pages.now in
    let laid = named_laid db names in
    let layout = db.layouts (suc t) in
    let filled =
    (c.in_ok-fill.ensures.done (omega (arith, c.next.ensures.kept.clean))) (record_order plain) _ laid.1.0
    (strict plain)
    (probe_before_key plain c.args.key.now) laid.0 laid.1.1 in
    let took =
    (c.in_ok-next.ensures.done (omega arith)) layout (subst (IsLaidIn layout) (sym c.fill.ensures.pages) laid.0)
    (subst (λ n. IsBatchOf layout n c.fill.new.batch) (sym c.fill.ensures.kept.same_size) filled.valid) in
    let so =
    subst₃ (λ n m f. TookFirst layout n m c.fill.new.batch c.next.new.self f) c.fill.ensures.kept.same_size
    c.fill.ensures.pages c.if-not-branch.true took in
    ap (from_key plain c.args.key.now) (index_shows names none ∙ index_reads pages laid.0 laid.1.1)
    ∙ first_taken c.args.key.now laid.1.0 layout size pages c.fill.new.batch c.next.new.self false filled so

pub returns-clause-done : goal.returns-clause-done
returns-clause-done g c clean t db names none =
    let pages = g.P.Pages.pages c.args.pages.now in
    let size = g.P.Pages.size c.args.pages.now in
    let laid = named_laid db names in
    let layout = db.layouts (suc t) in
    let filled =
    (c.in_ok-fill.ensures.done (omega (arith, c.next.ensures.kept.clean))) (record_order plain) _ laid.1.0
    (strict plain)
    (probe_before_key plain c.args.key.now) laid.0 laid.1.1 in
    let took =
    (c.in_ok-next.ensures.done (omega arith)) layout (subst (IsLaidIn layout) (sym c.fill.ensures.pages) laid.0)
    (subst (λ n. IsBatchOf layout n c.fill.new.batch) (sym c.fill.ensures.kept.same_size) filled.valid) in
    let so =
    subst₃ (λ n m f. TookFirst layout n m c.fill.new.batch c.next.new.self f) c.fill.ensures.kept.same_size
    c.fill.ensures.pages c.if-not-branch.false took in
    let first = first_taken c.args.key.now laid.1.0 layout size pages c.fill.new.batch c.next.new.self true filled so in
    let row : c.decode_into.new.row ≡ decode (taken c.next.new.self).payload =
    c.in_ok-decode_into.ensures ∙ rw (c.clear.ensures, c.payload.ensures, widen-zero) in (
      first.0,
      ap (from_key plain c.args.key.now) (index_shows names none ∙ index_reads pages laid.0 laid.1.1) ∙ first.1
          ∙ ap (λ r. r ∷ first.0) (sym row),
    )
