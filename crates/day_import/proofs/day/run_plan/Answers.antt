use Rattle.std.proofs.Common.{◌≡◌, ◌∙◌, ℕ, false, Option, Some, None, sym, ap, subst}
use Rattle.day_plan.specs.Draws.{seeded}
use Rattle.rand_pcg.specs.Lcg.{Lcg}
use Rattle.day_floor.proofs.Settled.{if_ok}
use Rattle.day_import.specs.Drawn.{AreTurns}
use Rattle.day_import.specs.PlannedRounds.{IsPlanned}
use Rattle.day_import.proofs.LoopLaws.{counted_ahead}
use Rattle.day_import.proofs.day.run_plan.Goals as goal

some_is : (a b : ℕ) → Some a ≡ Some b → a ≡ b
some_is a b e = cc

pub run_turns-requires-clause-seeded : goal.run_turns-requires-clause-seeded
run_turns-requires-clause-seeded g c n is =
    let here : c.args.plan.now.turns ≡ Some c.in-Some.number = cc in
    c.seed-rng.ensures ∙ ap seeded (some_is c.in-Some.number n (sym here ∙ is))

pub returns-in-None-clause-done : goal.returns-in-None-clause-done
returns-in-None-clause-done g c =
    let here : c.args.plan.now.turns ≡ None = cc in
    if_ok c.run_rounds.result
    (λ n done e told answered late h gathers number history.
    let (now, on, all, is, runs, rounds) = done e told answered late h gathers number history in (
      now,
      on,
      all,
      is,
      runs,
      subst (λ (t : Option ℕ). IsPlanned t c.args.run.now.floor.inboxes.width c.args.run.now.floor.limits.backlog now)
          (sym here) rounds,
    ))
    c.run_rounds.ensures.done

pub returns-in-Some-clause-done : goal.returns-in-Some-clause-done
returns-in-Some-clause-done g c =
    let here : c.args.plan.now.turns ≡ Some c.in-Some.number = cc in
    let f = c.args.run.now.floor in
    if_ok c.run_turns.result
    (λ n done e told answered late h gathers number history.
    let (now, on, all, is, runs, turns) = done e told answered late h gathers number history in (
      now,
      on,
      all,
      is,
      runs,
      subst (λ (t : Option ℕ). IsPlanned t f.inboxes.width f.limits.backlog now) (sym here)
          (subst (λ w. IsPlanned (Some c.in-Some.number) w f.limits.backlog now) c.requires.width (
            turns.0,
            c.run_turns.new.rng,
            subst (λ (r : Lcg). AreTurns c.args.plan.now.width f.limits.backlog r turns.0 now c.run_turns.new.rng false)
                c.seed-rng.ensures turns.1,
          )),
    ))
    c.run_turns.ensures.done

pub returns-in-Some-clause-source : goal.returns-in-Some-clause-source
returns-in-Some-clause-source g c = counted_ahead _ _ _ _ _ c.run_turns.result c.run_turns.ensures.source
