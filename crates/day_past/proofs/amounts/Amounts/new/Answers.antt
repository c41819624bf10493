use Rattle.std.proofs.Common.{rules, sym, subst}
use Rattle.keep_office.specs.Office.{row_cmp, RowsRise}
use Rattle.keep_office.proofs.ListFacts.{rise_none}
use Rattle.day_past.proofs.AmountLaws.{nothing}
use Rattle.day_past.proofs.amounts.Amounts.new.Goals as goal

pub returns : goal.returns
returns c = λ base. nothing _ base (search rules)

pub invariant_of-result : goal.invariant_of-result
invariant_of-result c = record { rise = subst RowsRise (sym c.new.ensures.items) (rise_none row_cmp) }
