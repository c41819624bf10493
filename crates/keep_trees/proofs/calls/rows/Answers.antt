use Rattle.std.proofs.Common.{◌&&◌, nat_le, sym, subst, ◌∙◌, arith, List}
use Rattle.std.proofs.lemmas.List.Kept.{IsStrictlySortedBy-filter}
use Rattle.road_time.specs.declared.day.SpentRow.{SpentRow}
use Rattle.keep_office.specs.Office.{row_cmp, RowsRise}
use Rattle.keep_trees.proofs.Premise.{not_both}
use Rattle.keep_trees.proofs.calls.rows.Goals as goal

pub returns-else-rise-clause-gives : goal.returns-else-rise-clause-gives
returns-else-rise-clause-gives g c clean o has =
    let are = (c.in-Ok.ensures.done (omega arith)) o has in
    let up =
    IsStrictlySortedBy-filter row_cmp
    (λ r. nat_le c.args.from r.day && nat_le r.day c.args.to) o.rows has.holds.office.sound.rows_rise in
    absurd (not_both (c.rise.ensures.1
    (subst (λ (l : List SpentRow). RowsRise l) (sym (c.deref.ensures.value ∙ are)) up)) c.if-rise.false)
