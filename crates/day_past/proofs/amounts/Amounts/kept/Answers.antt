use Rattle.std.proofs.Common.{nat_lt, sym, subst}
use Rattle.keep_office.specs.Office.{RowsRise}
use Rattle.day_past.proofs.RisingLaws.{some_rise}
use Rattle.day_past.proofs.amounts.Amounts.kept.Goals as goal

pub returns-then-is_rising-clause-rise : goal.returns-then-is_rising-clause-rise
returns-then-is_rising-clause-rise c =
    subst RowsRise (sym c.above_zero.ensures.value)
    (some_rise (λ r. nat_lt 0 r.tolls) c.args.self.rising.items c.args.self.rise)
