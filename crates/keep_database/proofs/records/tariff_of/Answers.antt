use Rattle.std.proofs.Common.{ℕ, ap, arith}
use Rattle.sqlite_value.specs.Order.{column}
use Rattle.keep_database.specs.declared.records.OwnTariff.{OwnTariff}
use Rattle.keep_database.proofs.GiveLaws.{err_as, pure_handed}
use Rattle.keep_database.proofs.records.tariff_of.Goals as goal

pub returns-in_err-xway-clause-gives : goal.returns-in_err-xway-clause-gives
returns-in_err-xway-clause-gives c e low valid is =
    err_as (λ (n : ℕ). n) (λ (own : OwnTariff). (own.xway, own.tariff)) c.from_residual.result c.in_err-xway.field-0.0
    e.0 e c.from_residual.ensures.1
    (c.in_err-xway.ensures.gives e.0 (rw is (omega arith)) low (ap (λ l. column l 0) is))

pub returns-in_err-crowd-clause-gives : goal.returns-in_err-crowd-clause-gives
returns-in_err-crowd-clause-gives c e low valid is =
    err_as (λ (n : ℕ). n) (λ (own : OwnTariff). (own.xway, own.tariff)) c.from_residual-in_err-crowd.result
    c.in_err-crowd.field-0.0 e.1.crowd e c.from_residual-in_err-crowd.ensures.1
    (c.in_err-crowd.ensures.gives e.1.crowd (rw is (omega arith)) (omega (arith, valid.0)) (ap (λ l. column l 1) is))

pub returns-in_err-speed-clause-gives : goal.returns-in_err-speed-clause-gives
returns-in_err-speed-clause-gives c e low valid is =
    err_as (λ (n : ℕ). n) (λ (own : OwnTariff). (own.xway, own.tariff)) c.from_residual-in_err-speed.result
    c.in_err-speed.field-0.0 e.1.speed e c.from_residual-in_err-speed.ensures.1
    (c.in_err-speed.ensures.gives e.1.speed (rw is (omega arith)) (omega (arith, valid.1)) (ap (λ l. column l 2) is))

pub returns-in_err-factor-clause-gives : goal.returns-in_err-factor-clause-gives
returns-in_err-factor-clause-gives c e low valid is =
    err_as (λ (n : ℕ). n) (λ (own : OwnTariff). (own.xway, own.tariff)) c.from_residual-in_err-factor.result
    c.in_err-factor.field-0.0 e.1.factor e c.from_residual-in_err-factor.ensures.1
    (c.in_err-factor.ensures.gives e.1.factor (rw is (omega arith)) (omega (arith, valid.2)) (ap (λ l. column l 3) is))

pub returns-in_err-xway-clause-pure : goal.returns-in_err-xway-clause-pure
returns-in_err-xway-clause-pure c =
    pure_handed c.from_residual.result c.in_err-xway.field-0.0 c.from_residual.ensures.1 c.in_err-xway.ensures.pure

pub returns-in_err-crowd-clause-pure : goal.returns-in_err-crowd-clause-pure
returns-in_err-crowd-clause-pure c =
    pure_handed c.from_residual-in_err-crowd.result c.in_err-crowd.field-0.0 c.from_residual-in_err-crowd.ensures.1 c.in_err-crowd.ensures.pure

pub returns-in_err-speed-clause-pure : goal.returns-in_err-speed-clause-pure
returns-in_err-speed-clause-pure c =
    pure_handed c.from_residual-in_err-speed.result c.in_err-speed.field-0.0 c.from_residual-in_err-speed.ensures.1 c.in_err-speed.ensures.pure

pub returns-in_err-factor-clause-pure : goal.returns-in_err-factor-clause-pure
returns-in_err-factor-clause-pure c =
    pure_handed c.from_residual-in_err-factor.result c.in_err-factor.field-0.0 c.from_residual-in_err-factor.ensures.1 c.in_err-factor.ensures.pure
