use Rattle.std.proofs.Common.{◌≡◌, subst}
use Rattle.ways_expressway.specs.Results.{IsResultOf}
use Rattle.ways_crews.specs.Entries.{IsOf}
use Rattle.ways_crews.proofs.entry.run_waiting.Goals as goal

pub returns-in-Waits-clause-run : goal.returns-in-Waits-clause-run
returns-in-Waits-clause-run c job of =
    let same : c.in-Waits.job ≡ job = subst (λ e. IsOf e job) c.in-Waits.is of in
    subst (λ j. IsResultOf j c.run.result) same c.run.ensures
