use Rattle.std.proofs.Common.{◌≡◌, ◌↔◌, IsTrue, subst, arith, to_z-of_z, to_z, of_z, w64}
use Rattle.std.proofs.lemmas.Result.{err_from_is_err_and}
use Rattle.sqlite_trees.specs.declared.store.Shape.TheVariants.{Table}
use Rattle.sqlite_store.specs.Db.{rows_at}
use Rattle.keep_trees.specs.Finds.{BeginAfter}
use Rattle.keep_trees.proofs.NumberLaws.{begins_where}
use Rattle.keep_trees.proofs.numbering.begins_after.Goals as goal

pub returns-in_err-fill_back-clause-done : goal.returns-in_err-fill_back-clause-done
returns-in_err-fill_back-clause-done g c clean layout laid =
    let p = err_from_is_err_and c.from_residual.result c.from_residual.ensures.1 in
    rw (p.1, p.2) ((c.in_err-fill_back.ensures.done (omega arith)) _ laid.1.0 laid.0 laid.1.1)

pub returns-clause-done : goal.returns-clause-done
returns-clause-done g c clean layout laid =
    let size = g.P.Pages.size c.args.pages.now in
    let pages = g.P.Pages.pages c.args.pages.now in
    let rows = rows_at size pages Table c.args.root in
    let whole = to_z w64 (of_z w64 c.args.number) in
    let same : whole ≡ c.args.number = to_z-of_z c.ranges.number in
    let filled = (c.in_ok-fill_back.ensures.done clean) layout laid.1.0 laid.0 laid.1.1 in
    let both = begins_where pages c.fill_back.new.batch whole laid.0 laid.1.1 filled in
    subst (λ n. IsTrue c.is_empty.result ↔ BeginAfter rows n) same (
      (λ none. both.0 (c.is_empty.ensures.none none pages)),
      (λ so. c.is_empty.ensures.some layout size pages filled.valid (both.1 so)),
    )
