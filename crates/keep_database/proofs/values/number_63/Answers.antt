use Rattle.std.proofs.Common.{ℕ, pos}
use Rattle.keep_database.proofs.GiveLaws.{no_error, pure_handed}
use Rattle.keep_database.proofs.values.number_63.Goals as goal

pub returns-in_err-number-clause-gives : goal.returns-in_err-number-clause-gives
returns-in_err-number-clause-gives c n low is =
    no_error (λ (x : ℕ). x) c.in_err-number.field-0.0 c.from_residual.result n (pos n)
    (c.in_err-number.ensures.gives (pos n) low is)

pub returns-in_err-number-clause-pure : goal.returns-in_err-number-clause-pure
returns-in_err-number-clause-pure c =
    pure_handed c.from_residual.result c.in_err-number.field-0.0 c.from_residual.ensures.1
    c.in_err-number.ensures.pure
