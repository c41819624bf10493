use Rattle.std.proofs.Common.{◌∙◌, ◌++◌, [], refl, sym, ap, subst}
use Rattle.std.proofs.lemmas.List.{append-nil}
use Rattle.road_time.specs.Fits.{Fit}
use Rattle.road_time.specs.Day.{sum_of}
use Rattle.day_floor.specs.SettlingBoards.{IsAbreast}
use Rattle.ways_expressway.specs.Results.{AreFirst}
use Rattle.day_floor.specs.Shares.{mark}
use Rattle.day_floor.specs.Steps.{after_settle}
use Rattle.day_import.specs.RoundRuns.{Stopped}
use Rattle.day_import.proofs.AskedRoundLaws.{none_asked}
use Rattle.day_import.proofs.FrontLaws.{front_before}
use Rattle.day_import.proofs.PublishLaws.{steps_under}
use Rattle.day_import.proofs.RoundLaws.{stopped_by}
use Rattle.day_import.proofs.SettleLaws.{round_settled, settled_runs, text_kept}
use Rattle.day_import.proofs.rounds.round.Goals as goal

pub returns-in_default-clause-front : goal.returns-in_default-clause-front
returns-in_default-clause-front g c e told answered s h can number history exact first had =
    let f = c.args.run.now.floor in
    let these = c.args.these.now.items in
    front_before f.inboxes.width f.limits e s h.stands.terms.some h.stands.sound (h.right exact) (s.fed ++ these)
    (these, refl) can.fit first _ had

pub settle_done-requires : goal.settle_done-requires
settle_done-requires g c =
    let (e, told, answered, s, h, can, number, history, abreast) = c.requires.runs in
    let (mid, done, runs) = c.in-Ok.ensures.done e told answered s h can in (
      e,
      mid,
      runs.stands,
      number,
      history,
      subst
          (λ cs. IsAbreast (g.P.Publisher.posted c.args.publisher.now) (sum_of cs)) (sym done.charges) abreast,
    )

pub returns-in-Ok-settle_done-clause-done : goal.returns-in-Ok-settle_done-clause-done
returns-in-Ok-settle_done-clause-done g c e told answered s h can number history =
    let k = g.C.Crew in
    let v = c.in-Ok.ensures in
    let run = c.work_round.new.run in
    let crew = c.work_round.new.crew in
    let f = c.args.run.now.floor in
    let n = c.in-Ok-settle_done.settled in
    let (mid, done, runs) = v.done e told answered s h can in
    let (is, stands, text, steps, abreast) = c.in-Ok-settle_done.ensures.settled e mid runs.stands number history in (
      after_settle mid n,
      round_settled f.inboxes.width f.limits.backlog e s mid c.args.these.now.items n _ _ _ _ done
          (is ∙ ap (λ m. mark m mid) v.width) text
          (steps_under run.floor.limits f.limits v.limits mid (after_settle mid n) _ _ steps),
      refl,
      settled_runs k.out k.number k.holds k.gave k.exact k.jobs k.answers e told answered run crew mid runs
          (record { floor = c.settle_done.new.floor; tickets = run.tickets }) n refl c.settle_done.ensures.width
          c.settle_done.ensures.limits stands,
      abreast,
    )

pub returns-in-Err-clause-stopped : goal.returns-in-Err-clause-stopped
returns-in-Err-clause-stopped g c e told answered s h can whole first =
    let k = g.C.Crew in
    let v = c.in-Ok.ensures in
    let run = c.work_round.new.run in
    let crew = c.work_round.new.crew in
    let (mid, done, runs) = v.done e told answered s h can in
    subst (λ m. Stopped k.out k.number k.holds k.gave k.jobs told m c.args.run.now.floor.limits whole
    (record { floor = c.settle_done.new.floor; tickets = run.tickets }) crew) v.width
    (subst (λ l. Stopped k.out k.number k.holds k.gave k.jobs told run.floor.inboxes.width l whole
    (record { floor = c.settle_done.new.floor; tickets = run.tickets }) crew) v.limits
    (stopped_by k.out k.number k.holds k.gave k.exact k.jobs k.answers e told answered run crew mid runs
    (record { floor = c.settle_done.new.floor; tickets = run.tickets }) refl whole
    (subst (λ ts. AreFirst ts whole) (sym done.fed) first)))

pub returns-in-Err-clause-front : goal.returns-in-Err-clause-front
returns-in-Err-clause-front g c e told answered s h can number history exact first had =
    let v = c.in-Ok.ensures in
    let f = c.work_round.new.run.floor in
    let (mid, done, runs) = v.done e told answered s h can in
    let later = s.fed ++ c.args.these.now.items in
    c.in-Err.ensures.stopped e mid runs.stands number history (runs.right exact) later
    ([], sym done.fed ∙ sym (append-nil mid.fed)) (subst (Fit later) (sym v.limits) can.fit) first
    (text_kept e s mid done.text first _ had)

pub returns-in_default-clause-asked : goal.returns-in_default-clause-asked
returns-in_default-clause-asked g c = none_asked (g.K.Keeper.plan c.args.keeper.now)

pub returns-in-Ok-settle_done-clause-read : goal.returns-in-Ok-settle_done-clause-read
returns-in-Ok-settle_done-clause-read g c lines bytes h =
    c.read_rest.ensures.read lines bytes (c.in-Ok.ensures.read lines bytes h)
