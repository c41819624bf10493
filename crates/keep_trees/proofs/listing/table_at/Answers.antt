use Rattle.std.proofs.Common.{subst, arith}
use Rattle.sqlite_trees.specs.declared.store.Shape.TheVariants.{Table}
use Rattle.sqlite_trees.specs.View.{Finds}
use Rattle.sqlite_store.specs.Db.{rows_at}
use Rattle.keep_trees.specs.Pages.{table_listed}
use Rattle.keep_trees.proofs.ListingLaws.{root_is}
use Rattle.keep_trees.proofs.listing.table_at.Goals as goal

pub returns-clause-done : goal.returns-clause-done
returns-clause-done g c clean db ours =
    let entries = rows_at (g.P.Pages.size c.args.pages.now) (g.P.Pages.pages c.args.pages.now) Table 1 in
    let finds =
    subst (Finds entries _ c.list_row.new.hands.row) c.if-not-branch.false ((c.in_ok-list_row.ensures.done clean) db) in
    root_is db (table_listed c.args.name.now c.args.text.now) c.list_row.new.hands.row _ c.in_ok-root.root ours finds
    (c.is_table.ensures c.if-not-is_table.false) c.in_ok-root.ensures (omega arith)
