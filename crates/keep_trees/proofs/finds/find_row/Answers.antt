use Rattle.std.proofs.Common.{◌≡◌, sym, subst₂, to_z-of_z, to_z, of_z, w64, MatchResult}
use Rattle.sqlite_pages.specs.Calls.{FailsFor}
use Rattle.sqlite_trees.specs.View.{Finds}
use Rattle.sqlite_store.proofs.DbLemmas.{named_laid}
use Rattle.keep_trees.proofs.TreeReads.{table_shows}
use Rattle.keep_trees.proofs.finds.find_row.Goals as goal

pub returns-clause-done : goal.returns-clause-done
returns-clause-done g c clean t db names none =
    let id = to_z w64 (of_z w64 c.args.number) in
    let same : id ≡ c.args.number = to_z-of_z c.ranges.number in
    subst₂ (λ xs n. MatchResult c.read_row.result (Finds xs n c.read_row.new.row)
    (FailsFor g.P.Pages c.args.pages.now c.read_row.new.pages ⊥)) (sym (table_shows names none)) same
    (c.read_row.ensures.done clean _ (named_laid db names))
