use Rattle.std.proofs.Common.{◌≡◌, ◌+◌, ◌<◌, ◌∙◌, ℕ, suc, refl, sym, ap, arith, subst}
use Rattle.ways_expressway.proofs.RunSteps.{on_refusal}
use Rattle.day_import.specs.Turns.{IsGiven}
use Rattle.day_import.specs.Tasks.{out_at}
use Rattle.day_import.specs.Drawn.{given_where, given_least}
use Rattle.day_import.proofs.TurnLaws.{given_same, given_then}
use Rattle.day_import.proofs.turning.give_least.Goals as goal

one_more : (n : ℕ) → suc n ≡ n + 1
one_more n = omega arith

pub loop-worker-init : goal.loop-worker-init
loop-worker-init g c =
    record {
      width = refl;
      limits = refl;
      which = refl;
      given =
          λ e told answered s h.
          (s, 0, given_same c.args.run.now.floor.inboxes.width s, h, λ none v k. absurd (omega (arith, k)), refl);
    }

pub give_if_none-requires-clause-runs : goal.give_if_none-requires-clause-runs
give_if_none-requires-clause-runs g c =
    let (e, told, answered, s, h) = c.requires.runs in
    let (now, n, given, runs, waits, is) = c.loop-worker.invariant.given e told answered s h in
    (e, told, answered, now, runs)

pub returns-in_err-give_if_none-clause-refused : goal.returns-in_err-give_if_none-clause-refused
returns-in_err-give_if_none-clause-refused g c =
    on_refusal c.from_residual.result
    (λ e told answered s h.
    let (now, n, given, runs, waits, is) = c.loop-worker.invariant.given e told answered s h in
    (now, n, given, c.in_err-give_if_none.ensures.refused e told answered now runs))

pub loop-worker-preserved : goal.loop-worker-preserved
loop-worker-preserved g c =
    let inv = c.loop-worker.invariant in
    let v = c.in_ok-give_if_none.ensures in
    let w = c.args.run.now.floor.inboxes.width in
    record {
      width = v.width ∙ inv.width;
      limits = v.limits ∙ inv.limits;
      which = v.which ∙ inv.which;
      given = λ e told answered s h.
          let (mid, n, given, runs, waits, is) = inv.given e told answered s h in
          let (now, m, more, all, least, so) = v.given e told answered mid runs in (
            now,
            n + m,
            given_then w n m s mid now given (subst (λ k. IsGiven k m mid now) inv.width more),
            all,
            least waits,
            subst (λ k. now ≡ given_where (out_at mid.share k) mid c.loop-worker.worker) inv.width so
                ∙ (ap (λ u. given_where (out_at u.share w) u c.loop-worker.worker) is
                ∙ ap (λ n. given_least w n s) (one_more c.loop-worker.worker)),
          );
    }

pub returns-clause-given : goal.returns-clause-given
returns-clause-given g c e told answered s h =
    let all : c.loop-worker.worker ≡ c.args.width =
    omega (arith, c.loop-worker.auto.worker-end, c.loop-worker-test.false) in
    let (now, n, given, runs, waits, is) = c.loop-worker.invariant.given e told answered s h in (
      now,
      n,
      given,
      runs,
      λ none v k. waits none v (subst (λ m. v < m) (sym all) k),
      is ∙ ap (λ m. given_least c.args.run.now.floor.inboxes.width m s) all,
    )
