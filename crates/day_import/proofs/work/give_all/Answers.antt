use Rattle.std.proofs.Common.{◌≡◌, ◌+◌, suc, ◌∙◌, arith, subst}
use Rattle.ways_expressway.proofs.RunSteps.{on_refusal}
use Rattle.day_import.specs.RoundRuns.{Runs, given_all}
use Rattle.day_import.proofs.work.give_all.Goals as goal

pub give_one-requires-clause-runs : goal.give_one-requires-clause-runs
give_one-requires-clause-runs g c =
    let (e, told, answered, s, h) = c.requires.runs in
    (e, told, answered, given_all s c.loop-worker.worker, c.loop-worker.invariant.given e told answered s h)

pub returns-in_err-give_one-clause-refused : goal.returns-in_err-give_one-clause-refused
returns-in_err-give_one-clause-refused g c =
    on_refusal c.from_residual.result
    (λ e told answered s h. (
      c.loop-worker.worker,
      c.in_err-give_one.ensures.refused e told answered (given_all s c.loop-worker.worker)
          (c.loop-worker.invariant.given e told answered s h),
    ))

pub loop-worker-preserved : goal.loop-worker-preserved
loop-worker-preserved g c =
    let k = g.C.Crew in
    let inv = c.loop-worker.invariant in
    let w = c.loop-worker.worker in
    let one : suc w ≡ w + 1 = omega arith in
    record {
      width = c.in_ok-give_one.ensures.width ∙ inv.width;
      limits = c.in_ok-give_one.ensures.limits ∙ inv.limits;
      which = c.in_ok-give_one.ensures.which ∙ inv.which;
      given = λ e told answered s h.
          subst (λ n. Runs k.out k.number k.holds k.gave k.exact k.jobs k.answers e told answered c.give_one.new.run
          c.give_one.new.crew (given_all s n)) one
          (c.in_ok-give_one.ensures.given e told answered (given_all s w) (inv.given e told answered s h));
    }

pub returns-clause-given : goal.returns-clause-given
returns-clause-given g c e told answered s h =
    let k = g.C.Crew in
    let all : c.loop-worker.worker ≡ c.args.width =
    omega (arith, c.loop-worker.auto.worker-end, c.loop-worker-test.false) in
    subst (λ n. Runs k.out k.number k.holds k.gave k.exact k.jobs k.answers e told answered c.loop-worker.run
    c.loop-worker.crew (given_all s n)) all (c.loop-worker.invariant.given e told answered s h)
