use Rattle.std.proofs.Common.{true, sym, subst}
use Rattle.std.proofs.lemmas.Bool.{false≢true}
use Rattle.tuples_text.specs.Sorting.{IsSorting}
use Rattle.tuples_text.proofs.SortingLaws.{sorting_next, sorting_take, sorting_none, sorting_ended}
use Rattle.tuples_text.proofs.sorter.Sorter.end.Goals as goal

pub returns-clause-next : goal.returns-clause-next
returns-clause-next c = λ late put taken ended st.
    let inside = subst (λ s. IsSorting s late put taken ended) (sym c.self.view_is) st in
    let is = c.in_ok-tuple.ensures.first in (
      sorting_next _ late put taken ended c.in_ok-tuple.tuple c.take.new.self inside is,
      sorting_take _ late put taken
          ended true c.in_ok-tuple.tuple c.take.new.self inside is (λ e. absurd (false≢true (sym e))),
    )

pub returns-in_err-tuple-clause-none : goal.returns-in_err-tuple-clause-none
returns-in_err-tuple-clause-none c =
    rw c.from_residual.ensures (λ late put taken ended st.
    let inside = subst (λ s. IsSorting s late put taken ended) (sym c.self.view_is) st in (
      sorting_none _ late put taken ended inside c.in_err-tuple.ensures.none,
      rw c.in_err-tuple.ensures.kept
          (sorting_ended _ late put taken ended inside),
    ))
