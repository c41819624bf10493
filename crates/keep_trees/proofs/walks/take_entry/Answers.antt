use Rattle.std.proofs.Common.{◌≡◌, map, refl, ap, subst, ◌∙◌, arith}
use Rattle.std.proofs.lemmas.Result.{err_from_is_err_and}
use Rattle.sqlite_record.specs.Record.{decode}
use Rattle.sqlite_record.proofs.AffinityLemmas.{widen-zero}
use Rattle.sqlite_btree.specs.Chain.{Entry}
use Rattle.sqlite_btree.specs.Batch.{TookFirst, taken}
use Rattle.keep_trees.proofs.walks.take_entry.Goals as goal

pub returns-in_err-next-clause-done : goal.returns-in_err-next-clause-done
returns-in_err-next-clause-done g c clean layout laid valid =
    let p = err_from_is_err_and c.from_residual.result c.from_residual.ensures.1 in
    rw (p.1, p.2) ((c.in_err-next.ensures.done (omega arith)) layout laid valid)

pub returns-then-not-branch-clause-done : goal.returns-then-not-branch-clause-done
returns-then-not-branch-clause-done g c clean layout laid valid =
    let size = g.P.Pages.size c.args.pages.now in
    let pages = g.P.Pages.pages c.args.pages.now in
    let took =
    subst (TookFirst layout size pages c.args.batch.now c.next.new.self) c.if-not-branch.true
    ((c.in_ok-next.ensures.done (omega arith)) layout laid valid) in
    (ap (map (λ (e : Entry). decode e.payload)) took.0, took.1, refl)

pub returns-clause-done : goal.returns-clause-done
returns-clause-done g c clean layout laid valid =
    let size = g.P.Pages.size c.args.pages.now in
    let pages = g.P.Pages.pages c.args.pages.now in
    let took =
    subst (TookFirst layout size pages c.args.batch.now c.next.new.self) c.if-not-branch.false
    ((c.in_ok-next.ensures.done (omega arith)) layout laid valid) in
    let row : c.decode_into.new.row ≡ decode (taken c.next.new.self).payload =
    c.in_ok-decode_into.ensures ∙ rw (c.clear.ensures, c.payload.ensures, widen-zero) in
    rw row (ap (map (λ (e : Entry). decode e.payload)) took.0, took.1)
