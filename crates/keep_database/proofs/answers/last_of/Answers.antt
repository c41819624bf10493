use Rattle.std.proofs.Common.{List, [], ◌∷◌, get_or, length, ap, ◌∙◌, arith}
use Rattle.sqlite_value.specs.Order.{Row, column}
use Rattle.keep_database.proofs.GiveLaws.{last_low}
use Rattle.keep_database.proofs.answers.last_of.Goals as goal

pub returns-in-len1-clause-gives : goal.returns-in-len1-clause-gives
returns-in-len1-clause-gives c [] p fits past is none =
    absurd (omega (arith, c.in-len1.len_at_least, ap (λ (l : List Row). length l) is))
returns-in-len1-clause-gives c (d ∷ ds) p fits past is none =
    let row = c.row-item.is ∙ ap (λ (l : List Row). get_or l 0 c.row-item.result) is in
    c.number_32.ensures.gives _ (rw row (omega arith)) (last_low d.day ds fits.0.day fits.1) (ap (λ l. column l 0) row)
