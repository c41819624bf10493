use Rattle.std.proofs.Common.{ℕ, ap, arith}
use Rattle.sqlite_value.specs.Order.{column}
use Rattle.road_digest.specs.declared.digest.Digest.{Digest}
use Rattle.keep_office.specs.declared.kept.PastRecord.{PastRecord}
use Rattle.keep_database.proofs.GiveLaws.{err_as}
use Rattle.keep_database.proofs.records.history_of.Goals as goal

pub returns-in_err-base-clause-gives : goal.returns-in_err-base-clause-gives
returns-in_err-base-clause-gives c p fits is =
    err_as (λ (n : ℕ). n) (λ (p : PastRecord). p) c.from_residual.result c.in_err-base.field-0.0 p.base p
    c.from_residual.ensures.1
    (c.in_err-base.ensures.gives p.base (rw is (omega arith)) fits.0.0 (ap (λ l. column l 0) is))

pub returns-in_err-digest-clause-gives : goal.returns-in_err-digest-clause-gives
returns-in_err-digest-clause-gives c p fits is =
    err_as (λ (d : Digest). d) (λ (p : PastRecord). p) c.from_residual-in_err-digest.result c.in_err-digest.field-0.0
    p.digest p c.from_residual-in_err-digest.ensures.1
    (c.in_err-digest.ensures.gives p.digest (rw is (omega arith)) fits.0.3.0 (ap (λ l. column l 1) is))

pub returns-in_err-bytes-clause-gives : goal.returns-in_err-bytes-clause-gives
returns-in_err-bytes-clause-gives c p fits is =
    err_as (λ (n : ℕ). n) (λ (p : PastRecord). p) c.from_residual-in_err-bytes.result c.in_err-bytes.field-0.0 p.bytes p
    c.from_residual-in_err-bytes.ensures.1
    (c.in_err-bytes.ensures.gives p.bytes (rw is (omega arith)) (ap (λ l. column l 2) is))

pub returns-in_err-rows-clause-gives : goal.returns-in_err-rows-clause-gives
returns-in_err-rows-clause-gives c p fits is =
    err_as (λ (n : ℕ). n) (λ (p : PastRecord). p) c.from_residual-in_err-rows.result c.in_err-rows.field-0.0 p.rows p
    c.from_residual-in_err-rows.ensures.1
    (c.in_err-rows.ensures.gives p.rows (rw is (omega arith)) (ap (λ l. column l 3) is))
