use Rattle.std.proofs.Common.{false, max, sym, ap, subst, ◌∙◌}
use Rattle.tuples_text.specs.Sorting.{IsSorting}
use Rattle.tuples_text.proofs.SortingLaws.{sorting_put}
use Rattle.tuples_text.proofs.sorter.Sorter.put.Goals as goal

pub returns-clause-put : goal.returns-clause-put
returns-clause-put c = λ late put taken st soon.
    let inside = subst (λ s. IsSorting s late put taken false) (sym c.self.view_is) st in
    let grown = c.max-self-inside.ensures ∙ ap (max c.self.inside.greatest) c.time.ensures in
    rw (c.in_ok-put.ensures.put, grown) (sorting_put _ late put taken c.args.tuple.now inside soon)
