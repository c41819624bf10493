use Rattle.std.proofs.Common.{◌≡◌, subst, to_z-of_z, to_z, of_z, w64, MatchResult}
use Rattle.sqlite_pages.specs.Calls.{FailsFor}
use Rattle.sqlite_trees.specs.declared.store.Shape.TheVariants.{Table}
use Rattle.sqlite_trees.specs.View.{Finds}
use Rattle.sqlite_store.specs.Db.{rows_at}
use Rattle.keep_trees.proofs.listing.list_row.Goals as goal

pub returns-clause-done : goal.returns-clause-done
returns-clause-done g c clean db =
    let id = to_z w64 (of_z w64 c.args.number) in
    let same : id ≡ c.args.number = to_z-of_z c.ranges.number in
    subst (λ n. MatchResult c.read_row.result
    (Finds (rows_at (g.P.Pages.size c.args.pages.now) (g.P.Pages.pages c.args.pages.now) Table 1) n c.read_row.new.row)
    (FailsFor g.P.Pages c.args.pages.now c.read_row.new.pages ⊥)) same
    (c.read_row.ensures.done clean (db.layouts 0) (db.trees.laid 0, db.trees.kept 0))
