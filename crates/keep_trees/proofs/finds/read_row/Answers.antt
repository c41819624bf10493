use Rattle.std.proofs.Common.{◌≡◌, true, false, [], sym, subst, ◌∙◌, arith, to_z-of_z, to_z, of_z, w64}
use Rattle.std.proofs.Math.Path.{subst₃}
use Rattle.std.proofs.lemmas.Result.{err_from_is_err_and}
use Rattle.sqlite_record.proofs.AffinityLemmas.{widen-zero}
use Rattle.sqlite_btree.specs.Batch.{IsFound}
use Rattle.sqlite_btree.specs.Stored.{by_rowid}
use Rattle.sqlite_btree.proofs.ViewLemmas.{ascends_rows}
use Rattle.sqlite_trees.specs.View.{Finds}
use Rattle.sqlite_store.specs.Db.{table_row}
use Rattle.sqlite_store.proofs.RowLemmas.{finds_row}
use Rattle.sqlite_store.proofs.DbLemmas.{table_reads}
use Rattle.keep_trees.proofs.finds.read_row.Goals as goal

pub returns-in_err-get-clause-done : goal.returns-in_err-get-clause-done
returns-in_err-get-clause-done g c clean layout laid =
    let p = err_from_is_err_and c.from_residual.result c.from_residual.ensures.1 in
    rw (p.1, p.2) ((c.in_err-get.ensures.done (omega arith)) _ laid.1.0 laid.0 laid.1.1)

pub returns-then-not-branch-clause-done : goal.returns-then-not-branch-clause-done
returns-then-not-branch-clause-done g c clean layout laid =
    let pages = g.P.Pages.pages c.args.pages.now in
    let raw = laid.1.0 in
    let id = to_z w64 (of_z w64 c.args.number) in
    let same : id ≡ c.args.number = to_z-of_z c.ranges.number in
    let rows = table_reads pages laid.0 laid.1.1 in
    let answer =
    finds_row id raw c.get.new.out.items false (ascends_rows laid.1.1)
    (subst (IsFound (by_rowid id) raw (id, c.get.new.out.items)) c.if-not-branch.true
    ((c.in_ok-get.ensures.done (omega arith)) _ raw laid.0 laid.1.1)) in
    subst₃ (λ xs n r. Finds xs n r false) (sym rows) same (λ i. []) answer

pub returns-clause-done : goal.returns-clause-done
returns-clause-done g c clean layout laid =
    let pages = g.P.Pages.pages c.args.pages.now in
    let raw = laid.1.0 in
    let id = to_z w64 (of_z w64 c.args.number) in
    let same : id ≡ c.args.number = to_z-of_z c.ranges.number in
    let rows = table_reads pages laid.0 laid.1.1 in
    let fields = c.get.new.out.items in
    let answer =
    finds_row id raw fields true (ascends_rows laid.1.1)
    (subst (IsFound (by_rowid id) raw (id, fields)) c.if-not-branch.false
    ((c.in_ok-get.ensures.done (omega arith)) _ raw laid.0 laid.1.1)) in
    let row : c.decode_into.new.row ≡ table_row (id, fields) =
    c.in_ok-decode_into.ensures ∙ rw (c.in_ok-push.ensures.ok, c.clear.ensures, c.as_slice.ensures.value, widen-zero) in
    subst₃ (λ xs n r. Finds xs n r true) (sym rows) same (sym row) answer
