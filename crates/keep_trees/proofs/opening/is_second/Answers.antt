use Rattle.std.proofs.Common.{pos, subst}
use Rattle.sqlite_trees.specs.View.{Finds}
use Rattle.sqlite_store.specs.Db.{trees_in}
use Rattle.keep_trees.specs.Pages.{our_trees}
use Rattle.keep_trees.proofs.opening.is_second.Goals as goal

pub returns-clause-second : goal.returns-clause-second
returns-clause-second g c clean t db at plain is =
    let rows = trees_in (g.P.Pages.size c.args.pages.now) our_trees (g.P.Pages.pages c.args.pages.now) t in (
      c.find_row.new.row,
      subst (Finds rows (pos 1) c.find_row.new.row) c.if-not-there.false
          ((c.in_ok-there.ensures.done clean) t db at plain),
      c.holds.ensures.0 is,
    )
