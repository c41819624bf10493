use Rattle.std.proofs.Common.{sym, subst}
use Rattle.keep_office.specs.Office.{row_cmp, RowsRise}
use Rattle.keep_office.proofs.ListFacts.{rise_none}
use Rattle.day_past.proofs.amounts.Amounts.leave_list.Goals as goal

pub invariant_of-self : goal.invariant_of-self
invariant_of-self c = record { rise = subst RowsRise (sym c.new.ensures.items) (rise_none row_cmp) }
