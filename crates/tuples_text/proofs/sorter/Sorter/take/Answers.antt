use Rattle.std.proofs.Common.{◌≤◌, ◌+◌, arith, sym, ap, subst}
use Rattle.road_time.specs.Tuples.{time_of}
use Rattle.road_time.specs.Order.{greatest_time}
use Rattle.tuples_text.specs.Sorting.{IsSorting}
use Rattle.tuples_text.proofs.SortingLaws.{sorting_next, sorting_take, same_first}
use Rattle.tuples_text.proofs.sorter.Sorter.take.Goals as goal

pub returns-clause-next : goal.returns-clause-next
returns-clause-next c = λ late put taken ended st.
    let inside = subst (λ s. IsSorting s late put taken ended) (sym c.self.view_is) st in
    let x = c.in_ok-tuple.tuple in
    let is = c.in_ok-tuple.ensures.first in
    let same = same_first c.self.inside.waiting c.take.new.self c.in_ok-first.first.now x (sym c.in_ok-first.ensures)
    is in
    let due : time_of x + late ≤ greatest_time put =
    omega (
      arith,
      ap time_of same,
      c.time.ensures,
      inside.lateness,
      inside.greatest,
      c.if-from.false,
      c.from.ensures,
      c.from-2.ensures,
      c.from-3.ensures,
    ) in (
      sorting_next _ late put taken ended x c.take.new.self inside is,
      due,
      sorting_take _ late put taken ended ended x
          c.take.new.self inside is (λ e. (e, due)),
    )
