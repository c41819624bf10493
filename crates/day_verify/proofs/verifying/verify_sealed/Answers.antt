use Rattle.std.proofs.Common.{◌≡◌, ◌∙◌, true, sym, ap}
use Rattle.std.specs.Str.{bytes_eq}
use Rattle.keep_office.specs.Kept.{seal_of}
use Rattle.day_verify.proofs.VerdictLaws.{sealed_says}
use Rattle.day_reading.proofs.BoundLaws.{nothing_read}
use Rattle.day_verify.proofs.JobLaws.{none_started}
use Rattle.day_verify.proofs.verifying.verify_sealed.Goals as goal

pub returns-then-eq-clause-says : goal.returns-then-eq-clause-says
returns-then-eq-clause-says g c = λ exact bytes o left told under.
    let is : c.in-Ok.now ≡ seal_of o.tariffs = c.in-Ok.ensures ∙ ap seal_of under in
    let same : bytes_eq c.in-Ok.now.bytes c.args.kept.now.tariffs.bytes ≡ true = sym c.eq.ensures ∙ c.if-eq.true in
    sealed_says c.args.kept.now c.args.terms.day c.args.terms.late c.args.terms.limits bytes o c.in-Ok.now
    c.verify_under.result is same (c.verify_under.ensures.says exact bytes o left told under)

pub returns-else-eq-clause-jobs : goal.returns-else-eq-clause-jobs
returns-else-eq-clause-jobs g c = λ bytes left. none_started _ _ _ _ _ _ (λ P. tt)

pub returns-in-Err-clause-jobs : goal.returns-in-Err-clause-jobs
returns-in-Err-clause-jobs g c = λ bytes left. none_started _ _ _ _ _ _ (λ P. tt)

pub returns-else-eq-clause-reads : goal.returns-else-eq-clause-reads
returns-else-eq-clause-reads g c = record { within = nothing_read _ _; leaves = λ bytes left. tt }

pub returns-in-Err-clause-reads : goal.returns-in-Err-clause-reads
returns-in-Err-clause-reads g c = record { within = nothing_read _ _; leaves = λ bytes left. tt }
