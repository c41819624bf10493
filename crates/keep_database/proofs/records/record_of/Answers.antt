use Rattle.std.proofs.Common.{ℕ, ap, arith}
use Rattle.sqlite_value.specs.Order.{column}
use Rattle.road_digest.specs.declared.digest.Digest.{Digest}
use Rattle.keep_office.specs.declared.kept.DayRecord.{DayRecord}
use Rattle.keep_database.proofs.GiveLaws.{err_as}
use Rattle.keep_database.proofs.records.record_of.Goals as goal

pub returns-in_err-digest-clause-gives : goal.returns-in_err-digest-clause-gives
returns-in_err-digest-clause-gives c r fits same is seal =
    err_as (λ (d : Digest). d) (λ (s : DayRecord). s) c.from_residual.result c.in_err-digest.field-0.0 r.digest r
    c.from_residual.ensures.1
    (c.in_err-digest.ensures.gives r.digest (rw is (omega arith)) fits.digest.0 (ap (λ l. column l 0) is))

pub returns-in_err-bytes-clause-gives : goal.returns-in_err-bytes-clause-gives
returns-in_err-bytes-clause-gives c r fits same is seal =
    err_as (λ (n : ℕ). n) (λ (s : DayRecord). s) c.from_residual-in_err-bytes.result c.in_err-bytes.field-0.0 r.bytes r
    c.from_residual-in_err-bytes.ensures.1
    (c.in_err-bytes.ensures.gives r.bytes (rw is (omega arith)) (ap (λ l. column l 1) is))

pub returns-in_err-tuples-clause-gives : goal.returns-in_err-tuples-clause-gives
returns-in_err-tuples-clause-gives c r fits same is seal =
    err_as (λ (n : ℕ). n) (λ (s : DayRecord). s) c.from_residual-in_err-tuples.result c.in_err-tuples.field-0.0 r.tuples
    r c.from_residual-in_err-tuples.ensures.1
    (c.in_err-tuples.ensures.gives r.tuples (rw is (omega arith)) (ap (λ l. column l 2) is))

pub returns-in_err-notices-clause-gives : goal.returns-in_err-notices-clause-gives
returns-in_err-notices-clause-gives c r fits same is seal =
    err_as (λ (n : ℕ). n) (λ (s : DayRecord). s) c.from_residual-in_err-notices.result c.in_err-notices.field-0.0
    r.notices r c.from_residual-in_err-notices.ensures.1
    (c.in_err-notices.ensures.gives r.notices (rw is (omega arith)) (ap (λ l. column l 3) is))

pub returns-in_err-notices_digest-clause-gives : goal.returns-in_err-notices_digest-clause-gives
returns-in_err-notices_digest-clause-gives c r fits same is seal =
    err_as (λ (d : Digest). d) (λ (s : DayRecord). s) c.from_residual-in_err-notices_digest.result
    c.in_err-notices_digest.field-0.0 r.notices_digest r c.from_residual-in_err-notices_digest.ensures.1
    (c.in_err-notices_digest.ensures.gives r.notices_digest (rw is (omega arith)) fits.told.0 (ap (λ l. column l 4) is))

pub returns-in_err-total-clause-gives : goal.returns-in_err-total-clause-gives
returns-in_err-total-clause-gives c r fits same is seal =
    err_as (λ (n : ℕ). n) (λ (s : DayRecord). s) c.from_residual-in_err-total.result c.in_err-total.field-0.0 r.total r
    c.from_residual-in_err-total.ensures.1
    (c.in_err-total.ensures.gives r.total (rw is (omega arith)) (ap (λ l. column l 5) is))

pub returns-in_err-tariffs-clause-gives : goal.returns-in_err-tariffs-clause-gives
returns-in_err-tariffs-clause-gives c r fits same is seal =
    err_as (λ (d : Digest). d) (λ (s : DayRecord). s) c.from_residual-in_err-tariffs.result c.in_err-tariffs.field-0.0
    r.tariffs r c.from_residual-in_err-tariffs.ensures.1
    (c.in_err-tariffs.ensures.gives r.tariffs (rw seal (omega arith)) fits.seal.0 (ap (λ l. column l 0) seal))
