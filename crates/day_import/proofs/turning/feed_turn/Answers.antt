use Rattle.std.proofs.Common.{◌≡◌, length, sym, subst}
use Rattle.ways_expressway.proofs.RunSteps.{on_refusal}
use Rattle.day_floor.specs.Shares.{mark}
use Rattle.ways_expressway.specs.Results.{AreFirst}
use Rattle.day_import.specs.RoundRuns.{Stopped, after_feeds}
use Rattle.day_import.specs.Turns.{IsMoved}
use Rattle.day_import.proofs.FeedLaws.{fed_runs, fed_are, first_left}
use Rattle.ways_expressway.proofs.ShapeLaws.{err_map, ok_map}
use Rattle.day_import.proofs.RoundLaws.{stopped_by}
use Rattle.day_import.proofs.turning.feed_turn.Goals as goal

pub returns-in_err-feed_these-clause-stopped : goal.returns-in_err-feed_these-clause-stopped
returns-in_err-feed_these-clause-stopped g c =
    let k = g.C.Crew in
    on_refusal c.from_residual.result
    (λ e told answered s h can day first.
    stopped_by k.out k.number k.holds k.gave k.exact k.jobs k.answers e told answered c.args.run.now c.args.crew.now s h
    c.feed_these.new.run c.in_err-feed_these.ensures.tickets day (first_left s.fed c.args.these.now day first))

pub work_turn-requires-clause-runs : goal.work_turn-requires-clause-runs
work_turn-requires-clause-runs g c =
    let k = g.C.Crew in
    let v = c.in_ok-feed_these.ensures in
    let w = c.args.run.now.floor.inboxes.width in
    let these = c.args.these.now in
    let (e, told, answered, s, h, can) = c.requires.runs in (
      e,
      told,
      answered,
      after_feeds w s these,
      fed_runs k.out k.number k.holds k.gave k.exact k.jobs k.answers e told
          answered c.args.run.now c.args.crew.now s h c.feed_these.new.run these v.tickets v.width v.limits
          (v.fed e s h.stands can),
    )

pub returns-clause-worked : goal.returns-clause-worked
returns-clause-worked g c =
    let k = g.C.Crew in
    let v = c.in_ok-feed_these.ensures in
    let w = c.args.run.now.floor.inboxes.width in
    let these = c.args.these.now in
    ok_map c.work_turn.result
    (λ worked e told answered s h can.
    let fed = after_feeds w s these in
    let (mid, j, moved, runs, idle, backs) =
    worked e told answered fed
    (fed_runs k.out k.number k.holds k.gave k.exact k.jobs k.answers e told answered c.args.run.now c.args.crew.now
    s h c.feed_these.new.run these v.tickets v.width v.limits (v.fed e s h.stands can)) in (
      mid,
      j,
      subst (λ m. IsMoved m j fed mid) v.width moved,
      runs,
      subst (λ m. j ≡ 0 → mark m fed ≡ length fed.fed)
          v.width idle,
      backs,
    ))
    c.work_turn.ensures.worked

pub returns-clause-stopped : goal.returns-clause-stopped
returns-clause-stopped g c =
    let k = g.C.Crew in
    let v = c.in_ok-feed_these.ensures in
    let w = c.args.run.now.floor.inboxes.width in
    let these = c.args.these.now in
    err_map c.work_turn.result
    (λ stopped e told answered s h can day first.
    let mid =
    fed_runs k.out k.number k.holds k.gave k.exact k.jobs k.answers e told answered c.args.run.now c.args.crew.now s
    h c.feed_these.new.run these v.tickets v.width v.limits (v.fed e s h.stands can) in
    subst (λ m. Stopped k.out k.number k.holds k.gave k.jobs told m c.args.run.now.floor.limits day c.work_turn.new.run
    c.work_turn.new.crew) v.width
    (subst (λ l. Stopped k.out k.number k.holds k.gave k.jobs told c.feed_these.new.run.floor.inboxes.width l day
    c.work_turn.new.run c.work_turn.new.crew) v.limits
    (stopped e told answered (after_feeds w s these) mid day
    (subst (λ ts. AreFirst ts day) (sym (fed_are w s these)) first))))
    c.work_turn.ensures.stopped
