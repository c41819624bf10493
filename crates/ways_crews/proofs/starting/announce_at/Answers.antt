use Rattle.std.proofs.Common.{subst}
use Rattle.ways_expressway.specs.declared.job.Job.{Job}
use Rattle.ways_expressway.specs.Results.{IsResultOf}
use Rattle.ways_crews.proofs.starting.announce_at.Goals as goal

pub returns-in-Err-clause-begun : goal.returns-in-Err-clause-begun
returns-in-Err-clause-begun g c =
    let back = c.in-Err.ensures.err in
    (subst (λ (j : Job). IsResultOf j c.run_past.result) back.0 c.run_past.ensures, back.1)
