use Rattle.std.proofs.Common.{refl, subst, MatchResult}
use Rattle.sqlite_pages.specs.Calls.{FailsFor}
use Rattle.sqlite_value.specs.Order.{Row}
use Rattle.sqlite_store.specs.Db.{trees_in}
use Rattle.keep_trees.specs.Pages.{our_trees}
use Rattle.keep_trees.specs.Walks.{StartsAt}
use Rattle.keep_trees.proofs.vehicles.leave_day.Goals as goal

pub returns-clause-done : goal.returns-clause-done
returns-clause-done g c clean db names =
    let size = g.P.Pages.size c.args.pages.now in
    let pages = g.P.Pages.pages c.args.pages.now in
    subst (λ (k : Row). MatchResult c.first_entry.result
    (StartsAt (db.layouts 3) size pages
    (trees_in size our_trees pages 2) k c.first_entry.new.batch c.first_entry.new.entry)
    (FailsFor g.P.Pages c.args.pages.now c.first_entry.new.pages ⊥)) c.in_ok-set_end.ensures
    ((c.first_entry.ensures.done clean) 2 db names refl)
