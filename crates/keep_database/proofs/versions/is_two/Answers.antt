use Rattle.std.proofs.Common.{ℕ, ap, arith}
use Rattle.sqlite_value.specs.Order.{column}
use Rattle.keep_database.proofs.StandLaws.{gives_no_failure}
use Rattle.keep_database.proofs.GiveLaws.{is_there, pure_handed, always_not, never_given}
use Rattle.keep_database.proofs.versions.is_two.Goals as goal

pub returns-in_err-version-clause-there : goal.returns-in_err-version-clause-there
returns-in_err-version-clause-there c is =
    gives_no_failure (λ (n : ℕ). n) c.from_residual.result c.in_err-version.field-0.0 2 c.from_residual.ensures.1
    (c.in_err-version.ensures.gives 2 (rw is (omega arith)) (ap (λ l. column l 0) is))

pub returns-in_err-version-clause-pure : goal.returns-in_err-version-clause-pure
returns-in_err-version-clause-pure c =
    pure_handed c.from_residual.result c.in_err-version.field-0.0 c.from_residual.ensures.1
    c.in_err-version.ensures.pure

pub returns-in_err-version-clause-other : goal.returns-in_err-version-clause-other
returns-in_err-version-clause-other c =
    always_not c.from_residual.result _
    (λ is. never_given (λ (n : ℕ). n) c.in_err-version.field-0.0 2
    (c.in_err-version.ensures.gives 2 (is_there c.args.row.now 2 is) is) c.in_err-version.ensures.pure)
