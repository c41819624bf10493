use Rattle.std.proofs.Common.{◌≡◌, ◌++◌, ap, sym, subst, ◌∙◌}
use Rattle.std.specs.List.Sorted.{IsPermutation}
use Rattle.day_floor.specs.Sums.{AreRowsOf, listed}
use Rattle.day_floor.specs.Entries.{firsts, all_sums}
use Rattle.day_floor.specs.Books.{Accounts}
use Rattle.day_floor.proofs.RowSteps.{listed_both, are_rows}
use Rattle.day_floor.proofs.BookLaws.{sums_apart}
use Rattle.day_floor.proofs.book.Book.spent_rows.Goals as goal

pub returns : goal.returns
returns c =
    let vehicles = c.self.inside.vehicles.entries in
    let further = c.self.inside.further.entries in
    let rows = c.sort_rows.new.rows.items in
    let all : c.list_further.new.rows.items ≡ listed c.args.day (all_sums vehicles further) =
    c.in_ok-list_further.ensures.rows
    ∙ (ap (λ rs. rs ++ listed c.args.day further)
    (c.in_ok-list_firsts.ensures ∙ ap (λ rs. rs ++ listed c.args.day (firsts vehicles)) c.new-rows.ensures.items)
    ∙ sym (listed_both c.args.day (firsts vehicles) further)) in
    subst (λ m. AreRowsOf m c.args.day rows) (ap (λ (s : Accounts). s.spent) c.self.view_is)
    (are_rows c.args.day (all_sums vehicles further) rows
    (sums_apart vehicles further c.self.inside.total c.self.inside.made c.self.invariant
    c.in_ok-list_further.ensures.apart)
    (subst (λ xs. IsPermutation xs rows) all c.sort_rows.ensures.moved) c.sort_rows.ensures.sorted)
