use Rattle.std.proofs.Common.{ℕ, Vec, Global}
use Rattle.road_digest.specs.declared.digest.Digest.{Digest}
use Rattle.keep_database.proofs.GiveLaws.{err_as}
use Rattle.keep_database.proofs.values.digest_at.Goals as goal

pub returns-in_err-bytes-clause-gives : goal.returns-in_err-bytes-clause-gives
returns-in_err-bytes-clause-gives c d low long is =
    err_as (λ (v : Vec ℕ Global). v.items) (λ (e : Digest). e) c.from_residual.result c.in_err-bytes.field-0.0 d.bytes d
    c.from_residual.ensures.1 (c.in_err-bytes.ensures.gives d.bytes low is)
