use Rattle.std.proofs.Common.{◌∙◌, ◌++◌, [], refl, sym, ap, subst}
use Rattle.std.proofs.lemmas.List.{append-nil}
use Rattle.road_time.specs.Fits.{Fit}
use Rattle.road_time.specs.Day.{sum_of}
use Rattle.day_floor.specs.SettlingBoards.{IsAbreast}
use Rattle.ways_expressway.specs.Results.{AreFirst}
use Rattle.day_floor.specs.Shares.{mark}
use Rattle.day_floor.specs.Steps.{after_settle}
use Rattle.ways_expressway.proofs.RunSteps.{on_refusal}
use Rattle.day_import.specs.RoundRuns.{Stopped, settled_all}
use Rattle.day_import.proofs.FeedLaws.{fed_are}
use Rattle.day_import.proofs.AskedRoundLaws.{none_asked}
use Rattle.day_import.proofs.FrontLaws.{front_before}
use Rattle.day_import.proofs.PublishLaws.{steps_under}
use Rattle.day_import.proofs.RoundLaws.{stopped_by}
use Rattle.day_import.proofs.SettleLaws.{if_fault, settled_runs, text_kept}
use Rattle.day_floor.proofs.Settled.{if_ok}
use Rattle.day_import.proofs.TurnedLaws.{turn_is, turn_charges, turn_text}
use Rattle.day_import.proofs.turning.turn.Goals as goal

pub returns-in_default-clause-front : goal.returns-in_default-clause-front
returns-in_default-clause-front g c e told answered s h can number history exact first had =
    let f = c.args.run.now.floor in
    front_before f.inboxes.width f.limits e s h.stands.terms.some h.stands.sound (h.right exact)
    (s.fed ++ c.args.these.now) (c.args.these.now, refl) can.fit first _ had

pub settle_done-requires : goal.settle_done-requires
settle_done-requires g c =
    let w = c.args.run.now.floor.inboxes.width in
    let these = c.args.these.now in
    let (e, told, answered, s, h, can, number, history, abreast) = c.requires.runs in
    let (mid, n, moved, runs, idle, backs) = c.in-Ok.ensures.worked e told answered s h can in (
      e,
      mid,
      runs.stands,
      number,
      history,
      subst
          (λ cs. IsAbreast (g.P.Publisher.posted c.args.publisher.now) (sum_of cs))
          (sym (turn_charges w n s mid these h.stands.sound.settled moved)) abreast,
    )

pub returns-clause-done : goal.returns-clause-done
returns-clause-done g c =
    let k = g.C.Crew in
    let v = c.in-Ok.ensures in
    let run = c.feed_turn.new.run in
    let crew = c.feed_turn.new.crew in
    let f = c.args.run.now.floor in
    if_ok c.settle_done.result
    (λ n settled e told answered s h can number history.
    let (mid, j, moved, runs, idle, backs) = v.worked e told answered s h can in
    let (is, stands, text, steps, abreast) = settled e mid runs.stands number history in (
      after_settle mid n,
      j,
      turn_is f.inboxes.width f.limits.backlog e s mid c.args.these.now n j _ _ _ _ h.stands.sound.settled moved idle
          (is ∙ ap (λ m. mark m mid) v.width) text
          (steps_under run.floor.limits f.limits v.limits mid (after_settle mid n) _ _ steps),
      refl,
      settled_runs k.out k.number k.holds k.gave k.exact k.jobs k.answers e told answered run crew mid runs
          (record { floor = c.settle_done.new.floor; tickets = run.tickets }) n refl c.settle_done.ensures.width
          c.settle_done.ensures.limits stands,
      abreast,
      (
        backs.0,
        ap (λ m. after_settle mid m) (is ∙ ap (λ m. mark m mid) v.width)
            ∙ ap (λ u. settled_all f.inboxes.width u) backs.1,
        backs.2,
      ),
    ))
    c.settle_done.ensures.settled

pub returns-clause-stopped : goal.returns-clause-stopped
returns-clause-stopped g c =
    let k = g.C.Crew in
    let v = c.in-Ok.ensures in
    let w = c.args.run.now.floor.inboxes.width in
    let run = c.feed_turn.new.run in
    let crew = c.feed_turn.new.crew in
    on_refusal c.settle_done.result
    (λ e told answered s h can whole first.
    let (mid, j, moved, runs, idle, backs) = v.worked e told answered s h can in
    subst (λ m. Stopped k.out k.number k.holds k.gave k.jobs told m c.args.run.now.floor.limits whole
    (record { floor = c.settle_done.new.floor; tickets = run.tickets }) crew) v.width
    (subst (λ l. Stopped k.out k.number k.holds k.gave k.jobs told run.floor.inboxes.width l whole
    (record { floor = c.settle_done.new.floor; tickets = run.tickets }) crew) v.limits
    (stopped_by k.out k.number k.holds k.gave k.exact k.jobs k.answers e told answered run crew mid runs
    (record { floor = c.settle_done.new.floor; tickets = run.tickets }) refl whole
    (subst (λ ts. AreFirst ts whole) (sym (moved.fed ∙ fed_are w s c.args.these.now)) first))))

pub returns-clause-front : goal.returns-clause-front
returns-clause-front g c =
    let v = c.in-Ok.ensures in
    let w = c.args.run.now.floor.inboxes.width in
    let these = c.args.these.now in
    if_fault c.settle_done.result
    (λ fault some e told answered s h can number history exact first had.
    let (mid, j, moved, runs, idle, backs) = v.worked e told answered s h can in
    some e mid runs.stands number history (runs.right exact) (s.fed ++ these)
    ([], sym (moved.fed ∙ fed_are w s these) ∙ sym (append-nil mid.fed))
    (subst (Fit (s.fed ++ these)) (sym v.limits) can.fit) first
    (text_kept e s mid (turn_text w j s mid these h.stands.sound.settled moved) first _ had))
    c.settle_done.ensures.stopped

pub returns-in_default-clause-asked : goal.returns-in_default-clause-asked
returns-in_default-clause-asked g c = none_asked (g.K.Keeper.plan c.args.keeper.now)
