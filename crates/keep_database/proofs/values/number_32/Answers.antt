use Rattle.keep_database.proofs.GiveLaws.{pure_handed}
use Rattle.keep_database.proofs.values.number_32.Goals as goal

pub returns-in_err-number-clause-pure : goal.returns-in_err-number-clause-pure
returns-in_err-number-clause-pure c =
    pure_handed c.from_residual.result c.in_err-number.field-0.0 c.from_residual.ensures.1
    c.in_err-number.ensures.pure
