use Rattle.std.proofs.Common.{subst, arith}
use Rattle.sqlite_trees.specs.Tree.{from_key}
use Rattle.sqlite_trees.specs.View.{IsShaped}
use Rattle.sqlite_value.specs.Keys.{plain}
use Rattle.sqlite_store.specs.Db.{trees_in}
use Rattle.sqlite_store.proofs.DbLemmas.{ordered}
use Rattle.keep_trees.specs.Pages.{our_trees}
use Rattle.keep_trees.specs.Finds.{IsFirst}
use Rattle.keep_trees.proofs.EntryLaws.{none_from, told}
use Rattle.keep_trees.proofs.finds.find_key.Goals as goal

pub returns-then-not-branch-clause-done : goal.returns-then-not-branch-clause-done
returns-then-not-branch-clause-done g c clean t db names none =
    let entries = trees_in (g.P.Pages.size c.args.pages.now) our_trees (g.P.Pages.pages c.args.pages.now) t in
    none_from c.args.key.now entries
    (subst (IsFirst (from_key plain c.args.key.now entries) c.find_entry.new.row) c.if-not-branch.true
    ((c.in_ok-find_entry.ensures.done (omega arith)) t db names none))

pub returns-clause-done : goal.returns-clause-done
returns-clause-done g c clean t db names none =
    let entries = trees_in (g.P.Pages.size c.args.pages.now) our_trees (g.P.Pages.pages c.args.pages.now) t in
    told c.args.key.now entries c.find_entry.new.row c.is_begun_by-begun.result
    (subst (λ s. IsShaped s entries) names.shape_is (ordered db t))
    (subst (IsFirst (from_key plain c.args.key.now entries) c.find_entry.new.row) c.if-not-branch.false
    ((c.in_ok-find_entry.ensures.done (omega arith)) t db names none)) c.is_begun_by-begun.ensures
