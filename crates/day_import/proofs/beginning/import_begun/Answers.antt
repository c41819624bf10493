use Rattle.std.proofs.Common.{inl, inr, refl}
use Rattle.day_import.proofs.JobLaws.{none_started, begun_published, refused_published}
use Rattle.day_import.proofs.beginning.import_begun.Goals as goal

pub returns-in-Ok-clause-published : goal.returns-in-Ok-clause-published
returns-in-Ok-clause-published g c =
    λ exact bytes was left posted. begun_published _ _ c.args.terms.day _ was _ _ _ _ posted c.in-Ok.ensures.ok
    (c.import_under.ensures.stepped exact bytes left)

pub returns-in-Err-clause-published : goal.returns-in-Err-clause-published
returns-in-Err-clause-published g c =
    λ exact bytes was left posted. inr (refused_published c.args.terms.day was _ _ posted c.in-Err.ensures.err, tt)

pub returns-in-Err-clause-jobs : goal.returns-in-Err-clause-jobs
returns-in-Err-clause-jobs g c = λ bytes left. none_started _ _ _ _ _ tt

pub returns-in-Err-clause-planned : goal.returns-in-Err-clause-planned
returns-in-Err-clause-planned g c = λ bytes left. tt

pub returns-in-Err-clause-read_first : goal.returns-in-Err-clause-read_first
returns-in-Err-clause-read_first g c = λ bytes left. inl refl
