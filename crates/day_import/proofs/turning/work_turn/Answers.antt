use Rattle.std.proofs.Common.{ℕ, zero, suc, ◌≡◌, ◌+◌, ◌≤◌, ◌<◌, ◌∙◌, length, refl, sym, ap, arith, subst}
use Rattle.day_plan.specs.Draws.{after_draws}
use Rattle.ways_expressway.proofs.RunSteps.{on_refusal}
use Rattle.ways_expressway.specs.Results.{AreFirst}
use Rattle.day_import.specs.RoundRuns.{Stopped, after_backs}
use Rattle.day_import.specs.Turns.{IsGiven, IsMoved}
use Rattle.day_import.specs.Drawn.{AreFinished, after_giving, given_least}
use Rattle.day_import.proofs.DrawnLaws.{finished_drawn}
use Rattle.day_import.proofs.FinishRoundLaws.{ok_four, outs_count}
use Rattle.ways_expressway.proofs.ShapeLaws.{err_map}
use Rattle.keep_office.proofs.ListFacts.{no_length}
use Rattle.day_import.proofs.RoundLaws.{all_home, stopped_by}
use Rattle.day_import.proofs.TurnLaws.{given_then, moved_given, moved_then, none_ahead}
use Rattle.day_import.proofs.turning.work_turn.Goals as goal

no_steps : (a b k old new : ℕ) → (a + b) + k ≡ 0 → new + k ≡ old → (1 ≤ old → new + 1 ≤ old) → old ≡ 0
no_steps a b k zero new h e some = refl
no_steps a b k (suc n) new h e some = let less = some (omega arith) in absurd (omega (arith, h, e, less))

pub give_least-requires-clause-runs : goal.give_least-requires-clause-runs
give_least-requires-clause-runs g c =
    let (e, told, answered, s, h) = c.requires.runs in
    let (now, n, given, runs, is) = c.give_drawn.ensures.given e told answered s h in
    (e, told, answered, now, runs)

pub finish_drawn-requires : goal.finish_drawn-requires
finish_drawn-requires g c =
    let (e, told, answered, s, h) = c.requires.runs in
    let (mid, n, given, runs, is) = c.give_drawn.ensures.given e told answered s h in
    let (now, m, more, all, waits, so) = c.in_ok-give_least.ensures.given e told answered mid runs in
    record { runs = (e, told, answered, now, all) }

pub returns-in_err-give_drawn-clause-stopped : goal.returns-in_err-give_drawn-clause-stopped
returns-in_err-give_drawn-clause-stopped g c =
    let k = g.C.Crew in
    on_refusal c.from_residual.result
    (λ e told answered s h day first.
    let (now, n, given, runs, is) = c.give_drawn.ensures.given e told answered s h in
    subst (λ m. Stopped k.out k.number k.holds k.gave k.jobs told m c.args.run.now.floor.limits day c.give_drawn.new.run
    c.give_drawn.new.crew) (c.give_drawn.ensures.width)
    (subst (λ l. Stopped k.out k.number k.holds k.gave k.jobs told c.give_drawn.new.run.floor.inboxes.width l day
    c.give_drawn.new.run c.give_drawn.new.crew) (c.give_drawn.ensures.limits)
    (stopped_by k.out k.number k.holds k.gave k.exact k.jobs k.answers e told answered c.give_drawn.new.run
    c.give_drawn.new.crew now runs c.give_drawn.new.run refl day
    (subst (λ ts. AreFirst ts day) (sym (given.fed)) first))))

pub returns-in_err-give_least-clause-stopped : goal.returns-in_err-give_least-clause-stopped
returns-in_err-give_least-clause-stopped g c =
    let k = g.C.Crew in
    on_refusal c.from_residual-in_err-give_least.result
    (λ e told answered s h day first.
    let (mid, n, given, runs, is) = c.give_drawn.ensures.given e told answered s h in
    let (now, m, more, all) = c.in_err-give_least.ensures.refused e told answered mid runs in
    subst (λ m. Stopped k.out k.number k.holds k.gave k.jobs told m c.args.run.now.floor.limits day c.give_least.new.run
    c.give_least.new.crew) (c.give_least.ensures.width ∙ c.give_drawn.ensures.width)
    (subst (λ l. Stopped k.out k.number k.holds k.gave k.jobs told c.give_least.new.run.floor.inboxes.width l day
    c.give_least.new.run c.give_least.new.crew) (c.give_least.ensures.limits ∙ c.give_drawn.ensures.limits)
    (stopped_by k.out k.number k.holds k.gave k.exact k.jobs k.answers e told answered c.give_least.new.run
    c.give_least.new.crew now all c.give_least.new.run refl day
    (subst (λ ts. AreFirst ts day) (sym (more.fed ∙ given.fed)) first))))

pub returns-clause-worked : goal.returns-clause-worked
returns-clause-worked g c =
    let k = g.C.Crew in
    let w = c.args.run.now.floor.inboxes.width in
    let one = c.give_drawn.ensures.width in
    let two = c.give_least.ensures.width ∙ one in
    ok_four c.finish_drawn.result
    (λ came some none_drawn some_drawn e told answered s h.
    let (first, a, given, runs, is) = c.in_ok-give_drawn.ensures.given e told answered s h in
    let (mid, b, more, all, waits, so) = c.in_ok-give_least.ensures.given e told answered first runs in
    let both = given_then w a b s first mid given (subst (λ n. IsGiven n b first mid) one more) in
    let (now, d, moved, count, last, backs) = came e told answered mid all in
    let left = c.finish_drawn.new.rng in
    let gave : mid ≡ after_giving c.args.width c.args.rng.now s =
    subst (λ n. mid ≡ given_least n c.args.width first) (one ∙ sym c.requires.width) so
    ∙ ap (λ u. given_least c.args.width c.args.width u) is in
    let finished =
    finished_drawn mid c.give_drawn.new.rng left backs.0 (length c.give_least.new.run.tickets.items)
    (length c.finish_drawn.new.run.tickets.items) d
    (outs_count k.out k.number k.holds k.gave k.exact k.jobs k.answers e told answered c.give_least.new.run
    c.give_least.new.crew mid all) count backs.2 backs.3 none_drawn some_drawn in (
      now,
      (a + b) + d,
      moved_then w (a + b) d s mid now (moved_given w (a + b) s mid both) (subst (λ n. IsMoved n d mid now) two moved),
      last,
      λ none.
          let empty =
          no_length c.give_least.new.run.tickets.items
          (no_steps a b d (length c.give_least.new.run.tickets.items) (length c.finish_drawn.new.run.tickets.items)
          none count some) in
          none_ahead w (a + b) s mid both
          (λ v m. all_home k.out k.number k.holds k.gave k.exact k.jobs k.answers e told answered c.give_least.new.run
          c.give_least.new.crew mid all empty v (subst (λ n. v < n) (sym two) m))
          (λ v m. waits empty v (subst (λ n. v < n) (sym c.requires.width) m)),
      (
        backs.0,
        backs.1 ∙ ap (λ u. after_backs u backs.0) gave,
        subst (λ u. AreFinished u (after_draws c.args.width c.args.rng.now) left backs.0) gave
            (subst (λ r. AreFinished mid r left backs.0) c.in_ok-give_drawn.ensures.drawn finished),
      ),
    ))
    c.finish_drawn.ensures.came c.finish_drawn.ensures.some c.finish_drawn.ensures.none c.finish_drawn.ensures.drawn

pub returns-clause-stopped : goal.returns-clause-stopped
returns-clause-stopped g c =
    let k = g.C.Crew in
    err_map c.finish_drawn.result
    (λ stopped e told answered s h day first.
    let (mid, a, given, runs, is) = c.give_drawn.ensures.given e told answered s h in
    let (now, b, more, all, waits, so) = c.in_ok-give_least.ensures.given e told answered mid runs in
    subst (λ m. Stopped k.out k.number k.holds k.gave k.jobs told m c.args.run.now.floor.limits day
    c.finish_drawn.new.run c.finish_drawn.new.crew) (c.give_least.ensures.width ∙ c.give_drawn.ensures.width)
    (subst (λ l. Stopped k.out k.number k.holds k.gave k.jobs told c.give_least.new.run.floor.inboxes.width l day
    c.finish_drawn.new.run c.finish_drawn.new.crew) (c.give_least.ensures.limits ∙ c.give_drawn.ensures.limits)
    (stopped e told answered now all day (subst (λ ts. AreFirst ts day) (sym (more.fed ∙ given.fed)) first))))
    c.finish_drawn.ensures.stopped
