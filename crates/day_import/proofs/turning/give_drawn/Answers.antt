use Rattle.std.proofs.Common.{◌≡◌, ℕ, suc, ◌+◌, ◌<◌, ◌∙◌, refl, sym, ap, arith, subst}
use Rattle.std.proofs.lemmas.Result.{err_from_is_err_and}
use Rattle.day_plan.specs.Draws.{drawn, after_draws}
use Rattle.day_plan.proofs.DrawLaws.{none_drawn, one_drawn}
use Rattle.day_import.specs.RoundRuns.{given_if}
use Rattle.day_import.specs.Drawn.{given_drawn}
use Rattle.day_import.proofs.DrawnLaws.{none_ok}
use Rattle.day_import.proofs.TurnLaws.{given_same, given_then, given_one}
use Rattle.day_import.proofs.turning.give_drawn.Goals as goal

next : (n : ℕ) → suc n ≡ n + 1
next n = omega arith

pub loop-count-init : goal.loop-count-init
loop-count-init g c =
    record {
      width = refl;
      limits = refl;
      which = refl;
      drawn = sym (none_drawn c.args.rng.now);
      given =
          λ e told answered s h. (s, 0, given_same c.args.run.now.floor.inboxes.width s, h, refl);
    }

pub give_one-requires-clause-within : goal.give_one-requires-clause-within
give_one-requires-clause-within g c =
    subst (λ n. c.pick-worker.result < n) (c.requires.width ∙ sym c.loop-count.invariant.width)
    c.pick-worker.ensures.below

pub give_one-requires-clause-runs : goal.give_one-requires-clause-runs
give_one-requires-clause-runs g c =
    let (e, told, answered, s, h) = c.requires.runs in
    let (now, n, given, runs, is) = c.loop-count.invariant.given e told answered s h in
    (e, told, answered, now, runs)

pub returns-in_err-give_one-clause-given : goal.returns-in_err-give_one-clause-given
returns-in_err-give_one-clause-given g c e told answered s h =
    let (now, n, given, runs, is) = c.loop-count.invariant.given e told answered s h in
    let p = err_from_is_err_and c.from_residual.result c.from_residual.ensures.1 in (
      now,
      n,
      given,
      c.in_err-give_one.ensures.refused e told answered now runs,
      none_ok (now ≡ given_drawn c.args.width c.args.width c.args.rng.now s) c.from_residual.result p.0 p.1,
    )

pub loop-count-preserved : goal.loop-count-preserved
loop-count-preserved g c =
    let inv = c.loop-count.invariant in
    let v = c.in_ok-give_one.ensures in
    let w = c.args.run.now.floor.inboxes.width in
    record {
      width = v.width ∙ inv.width;
      limits = v.limits ∙ inv.limits;
      which = v.which ∙ inv.which;
      drawn = c.pick-worker.ensures.drawn.1
          ∙ (ap (λ r. (drawn c.args.width r).1) inv.drawn
          ∙ (one_drawn c.args.width c.loop-count._count c.args.rng.now
          ∙ ap (λ n. after_draws n c.args.rng.now) (next c.loop-count._count)));
      given = λ e told answered s h.
          let (mid, n, given, runs, is) = inv.given e told answered s h in
          let (m, one) =
          given_one w mid c.pick-worker.result
          (subst (λ k. c.pick-worker.result < k) c.requires.width c.pick-worker.ensures.below) in (
            given_if mid c.pick-worker.result,
            n + m,
            given_then w n m s mid (given_if mid c.pick-worker.result) given
                one,
            v.given e told answered mid runs,
            ap (λ w. given_if mid w) (c.pick-worker.ensures.drawn.0 ∙ ap (λ r. (drawn c.args.width r).0) inv.drawn)
                ∙ (ap (λ m. given_if m (drawn c.args.width (after_draws c.loop-count._count c.args.rng.now)).0) is
                ∙ ap (λ n. given_drawn n c.args.width c.args.rng.now s) (next c.loop-count._count)),
          );
    }

pub returns-clause-drawn : goal.returns-clause-drawn
returns-clause-drawn g c =
    let all : c.loop-count._count ≡ c.args.width =
    omega (arith, c.loop-count.auto._count-end, c.loop-count-test.false) in
    c.loop-count.invariant.drawn ∙ ap (λ n. after_draws n c.args.rng.now) all

pub returns-clause-given : goal.returns-clause-given
returns-clause-given g c = λ e told answered s h.
    let all : c.loop-count._count ≡ c.args.width =
    omega (arith, c.loop-count.auto._count-end, c.loop-count-test.false) in
    let (now, n, given, runs, is) = c.loop-count.invariant.given e told answered s h in
    (now, n, given, runs, is ∙ ap (λ m. given_drawn m c.args.width c.args.rng.now s) all)
