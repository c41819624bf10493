use Rattle.std.proofs.Common.{◌≡◌, subst, sym, ap}
use Rattle.ways_expressway.specs.Results.{IsResultOf}
use Rattle.ways_crews.proofs.thread_crew.begin.Goals as goal

pub spawn_with-requires-clause-keeps : goal.spawn_with-requires-clause-keeps
spawn_with-requires-clause-keeps g c κs within r done = subst (λ j. IsResultOf j r) (sym c.of.ensures) done

pub returns-in-Err-spawn_with : goal.returns-in-Err-spawn_with
returns-in-Err-spawn_with g c =
    let same : c.in-Err-spawn_with.refused.value.4 ≡ c.args.job = ap (λ v. v.4) c.in-Err-spawn_with.ensures.err in
    subst (λ j. IsResultOf j c.spawn_with-in-Err-spawn_with.result) same c.spawn_with-in-Err-spawn_with.ensures
