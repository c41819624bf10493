use Rattle.std.proofs.Common.{pos, true, refl, subst, arith}
use Rattle.std.proofs.lemmas.Result.{err_from_is_err_and}
use Rattle.sqlite_trees.specs.View.{Finds}
use Rattle.sqlite_store.specs.Db.{trees_in}
use Rattle.keep_trees.specs.Pages.{our_trees}
use Rattle.keep_trees.proofs.Premise.{past_at, past_begins}
use Rattle.keep_trees.proofs.PastFound.{none_kept}
use Rattle.keep_trees.proofs.history_row.history.Goals as goal

pub returns-in_err-there-clause-done : goal.returns-in_err-there-clause-done
returns-in_err-there-clause-done g c clean o has =
    let p = err_from_is_err_and c.from_residual.result c.from_residual.ensures.1 in
    rw (p.1, p.2) ((c.in_err-there.ensures.done (omega arith)) 3 has.holds.db (past_at has) refl)

pub returns-then-not-there-clause-done : goal.returns-then-not-there-clause-done
returns-then-not-there-clause-done g c clean o has =
    none_kept o.past (trees_in (g.P.Pages.size c.args.pages.now) our_trees (g.P.Pages.pages c.args.pages.now) 3)
    c.find_row.new.row
    has.holds.office.tables.past_is
    (subst (Finds (trees_in (g.P.Pages.size c.args.pages.now) our_trees (g.P.Pages.pages c.args.pages.now) 3)
    (pos 1) c.find_row.new.row)
    c.if-not-there.true ((c.in_ok-there.ensures.done (omega arith)) 3 has.holds.db (past_at has) refl))

pub returns-then-not-there-clause-told : goal.returns-then-not-there-clause-told
returns-then-not-there-clause-told g c clean db are =
    let rows = trees_in (g.P.Pages.size c.args.pages.now) our_trees (g.P.Pages.pages c.args.pages.now) 3 in
    subst (Finds rows (pos 1) c.find_row.new.row) c.if-not-there.true
    ((c.in_ok-there.ensures.done clean) 3 db (past_begins are) refl)

pub returns-clause-told : goal.returns-clause-told
returns-clause-told g c clean db are =
    let rows = trees_in (g.P.Pages.size c.args.pages.now) our_trees (g.P.Pages.pages c.args.pages.now) 3 in
    let finds : Finds rows (pos 1) c.find_row.new.row true =
    subst (Finds rows (pos 1) c.find_row.new.row) c.if-not-there.false
    ((c.in_ok-there.ensures.done clean) 3 db (past_begins are) refl) in
    (c.find_row.new.row, finds, c.in_ok-past.ensures.reads)
