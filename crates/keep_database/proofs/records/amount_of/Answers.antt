use Rattle.std.proofs.Common.{ℕ, ap, arith}
use Rattle.sqlite_value.specs.Order.{column}
use Rattle.road_time.specs.declared.day.SpentRow.{SpentRow}
use Rattle.keep_database.proofs.GiveLaws.{err_as, pure_handed}
use Rattle.keep_database.proofs.records.amount_of.Goals as goal

pub returns-in_err-day-clause-gives : goal.returns-in_err-day-clause-gives
returns-in_err-day-clause-gives c r fits is =
    err_as (λ (n : ℕ). n) (λ (s : SpentRow). s) c.from_residual.result c.in_err-day.field-0.0 r.day r
    c.from_residual.ensures.1 (c.in_err-day.ensures.gives r.day (rw is (omega arith)) fits.0 (ap (λ l. column l 0) is))

pub returns-in_err-vid-clause-gives : goal.returns-in_err-vid-clause-gives
returns-in_err-vid-clause-gives c r fits is =
    err_as (λ (n : ℕ). n) (λ (s : SpentRow). s) c.from_residual-in_err-vid.result c.in_err-vid.field-0.0 r.vid r
    c.from_residual-in_err-vid.ensures.1
    (c.in_err-vid.ensures.gives r.vid (rw is (omega arith)) fits.1 (ap (λ l. column l 1) is))

pub returns-in_err-xway-clause-gives : goal.returns-in_err-xway-clause-gives
returns-in_err-xway-clause-gives c r fits is =
    err_as (λ (n : ℕ). n) (λ (s : SpentRow). s) c.from_residual-in_err-xway.result c.in_err-xway.field-0.0 r.xway r
    c.from_residual-in_err-xway.ensures.1
    (c.in_err-xway.ensures.gives r.xway (rw is (omega arith)) fits.2 (ap (λ l. column l 2) is))

pub returns-in_err-tolls-clause-gives : goal.returns-in_err-tolls-clause-gives
returns-in_err-tolls-clause-gives c r fits is =
    err_as (λ (n : ℕ). n) (λ (s : SpentRow). s) c.from_residual-in_err-tolls.result c.in_err-tolls.field-0.0 r.tolls r
    c.from_residual-in_err-tolls.ensures.1
    (c.in_err-tolls.ensures.gives r.tolls (rw is (omega arith)) (ap (λ l. column l 3) is))

pub returns-in_err-day-clause-pure : goal.returns-in_err-day-clause-pure
returns-in_err-day-clause-pure c =
    pure_handed c.from_residual.result c.in_err-day.field-0.0 c.from_residual.ensures.1 c.in_err-day.ensures.pure

pub returns-in_err-vid-clause-pure : goal.returns-in_err-vid-clause-pure
returns-in_err-vid-clause-pure c =
    pure_handed c.from_residual-in_err-vid.result c.in_err-vid.field-0.0 c.from_residual-in_err-vid.ensures.1 c.in_err-vid.ensures.pure

pub returns-in_err-xway-clause-pure : goal.returns-in_err-xway-clause-pure
returns-in_err-xway-clause-pure c =
    pure_handed c.from_residual-in_err-xway.result c.in_err-xway.field-0.0 c.from_residual-in_err-xway.ensures.1 c.in_err-xway.ensures.pure

pub returns-in_err-tolls-clause-pure : goal.returns-in_err-tolls-clause-pure
returns-in_err-tolls-clause-pure c =
    pure_handed c.from_residual-in_err-tolls.result c.in_err-tolls.field-0.0 c.from_residual-in_err-tolls.ensures.1 c.in_err-tolls.ensures.pure
