use Rattle.std.proofs.Common.{◌≡◌, subst}
use Rattle.ways_expressway.specs.Results.{IsResultOf}
use Rattle.ways_crews.specs.Threads.{WillFit}
use Rattle.ways_crews.specs.declared.held.Held.TheVariants.{Waits}
use Rattle.ways_crews.proofs.thread_crew.end.Goals as goal

pub returns-in-There : goal.returns-in-There
returns-in-There g c job fit =
    let same : c.in-There.child.promise.0.value ≡ job = subst (λ h. WillFit h job) c.in-There.is fit in
    subst (λ j. IsResultOf j c.join.result) same c.join.ensures

pub returns-in-Waits : goal.returns-in-Waits
returns-in-Waits g c job fit =
    let own : WillFit (Waits c.in-Waits.job) job = subst (λ h. WillFit h job) c.in-Waits.is fit in
    subst (λ j. IsResultOf j c.run.result) own.0 c.run.ensures
