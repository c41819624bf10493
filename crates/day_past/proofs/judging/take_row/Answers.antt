use Rattle.std.proofs.Common.{◌≡◌, Some, true, false, sym, subst}
use Rattle.day_past.specs.declared.judging.PastStop.{PastStop}
use Rattle.day_past.specs.Readings.{TakesRow}
use Rattle.day_past.specs.Rows.{TakesAmount}
use Rattle.day_past.proofs.judging.take_row.Goals as goal

pub returns-in-Ok-true-clause-takes : goal.returns-in-Ok-true-clause-takes
returns-in-Ok-true-clause-takes c = λ base rows valid h.
    let new : c.in-Ok-true.field-0 ≡ true = cc in
    subst (λ b. TakesAmount b c.take.new.self base rows c.args.row.now) new (c.in-Ok-true.ensures base rows valid h)

pub returns-in-Ok-false-clause-takes : goal.returns-in-Ok-false-clause-takes
returns-in-Ok-false-clause-takes c = λ base rows valid h.
    let twice : c.in-Ok-false.field-0 ≡ false = cc in
    subst (λ (s : PastStop). TakesRow (Some s) base rows c.args.row.now c.take.new.self) (sym c.refused.ensures)
    (subst (λ b. TakesAmount b c.take.new.self base rows c.args.row.now) twice
    (c.in-Ok-false.ensures base rows valid h))
