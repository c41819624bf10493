use Rattle.std.proofs.Common.{◌<◌, ◌++◌, refl, sym, ◌∙◌, subst}
use Rattle.ways_expressway.proofs.RunSteps.{on_refusal}
use Rattle.ways_expressway.specs.Results.{AreFirst}
use Rattle.day_import.specs.RoundRuns.{Stopped, CanFeedAll, OnlyTakesBack, HaveComeInOrder, IsDone, after_feeds}
use Rattle.day_import.specs.RoundRuns.{given_all}
use Rattle.day_import.proofs.FeedLaws.{fed_runs, fed_are, first_left}
use Rattle.day_import.proofs.RoundLaws.{all_home, none_outs, stopped_by, round_done, given_fed}
use Rattle.day_import.proofs.work.work_round.Goals as goal

pub returns-in_err-feed_these-clause-stopped : goal.returns-in_err-feed_these-clause-stopped
returns-in_err-feed_these-clause-stopped g c =
    let k = g.C.Crew in
    on_refusal c.from_residual.result
    (λ e told answered s h can day first.
    stopped_by k.out k.number k.holds k.gave k.exact k.jobs k.answers e told answered c.args.run.now c.args.crew.now s h
    c.feed_these.new.run c.in_err-feed_these.ensures.tickets day
    (first_left s.fed c.args.these.now.items day first))

pub give_all-requires-clause-runs : goal.give_all-requires-clause-runs
give_all-requires-clause-runs g c =
    let k = g.C.Crew in
    let (e, told, answered, s, h, can) = c.requires.runs in
    let these = c.as_slice.result.now in
    let may = subst (CanFeedAll c.args.run.now.floor.limits s) (sym c.as_slice.ensures.value) can in
    let v = c.in_ok-feed_these.ensures in (
      e,
      told,
      answered,
      after_feeds c.args.run.now.floor.inboxes.width s these,
      fed_runs k.out k.number k.holds k.gave k.exact k.jobs k.answers e told answered c.args.run.now c.args.crew.now s h
          c.feed_these.new.run these v.tickets v.width v.limits (v.fed e s h.stands may),
    )

pub returns-in_err-give_all-clause-stopped : goal.returns-in_err-give_all-clause-stopped
returns-in_err-give_all-clause-stopped g c =
    let k = g.C.Crew in
    let v = c.in_ok-feed_these.ensures in
    let r = c.in_err-give_all.ensures in
    let w = c.args.run.now.floor.inboxes.width in
    let these = c.as_slice.result.now in
    let now = c.give_all.new.run in
    on_refusal c.from_residual-in_err-give_all.result
    (λ e told answered s h can day first.
    let fed = after_feeds w s these in
    let may = subst (CanFeedAll c.args.run.now.floor.limits s) (sym c.as_slice.ensures.value) can in
    let front = subst (λ xs. AreFirst (s.fed ++ xs) day) (sym c.as_slice.ensures.value) first in
    let mid =
    fed_runs k.out k.number k.holds k.gave k.exact k.jobs k.answers e told answered c.args.run.now c.args.crew.now s
    h c.feed_these.new.run these v.tickets v.width v.limits (v.fed e s h.stands may) in
    let (n, runs) = r.refused e told answered fed mid in
    subst (λ m. Stopped k.out k.number k.holds k.gave k.jobs told m c.args.run.now.floor.limits day now
    c.give_all.new.crew) (r.width ∙ v.width)
    (subst (λ l. Stopped k.out k.number k.holds k.gave k.jobs told now.floor.inboxes.width l day now
    c.give_all.new.crew) (r.limits ∙ v.limits)
    (stopped_by k.out k.number k.holds k.gave k.exact k.jobs k.answers e told answered now c.give_all.new.crew
    (given_all fed n) runs now refl day
    (subst (λ ts. AreFirst ts day) (sym (given_fed fed n ∙ fed_are w s these)) front))))

pub finish_firsts-requires : goal.finish_firsts-requires
finish_firsts-requires g c =
    let k = g.C.Crew in
    let (e, told, answered, s, h, can) = c.requires.runs in
    let these = c.as_slice.result.now in
    let may = subst (CanFeedAll c.args.run.now.floor.limits s) (sym c.as_slice.ensures.value) can in
    let v = c.in_ok-feed_these.ensures in
    let fed = after_feeds c.args.run.now.floor.inboxes.width s these in
    record {
      runs = (
        e,
        told,
        answered,
        given_all fed c.args.width,
        c.in_ok-give_all.ensures.given e told answered fed
            (fed_runs k.out k.number k.holds k.gave k.exact k.jobs k.answers e told answered c.args.run.now
            c.args.crew.now s h c.feed_these.new.run these v.tickets v.width v.limits (v.fed e s h.stands may)),
      );
    }

pub returns-clause-done : goal.returns-clause-done
returns-clause-done g c e told answered s h can =
    let k = g.C.Crew in
    let v = c.in_ok-feed_these.ensures in
    let r = c.in_ok-give_all.ensures in
    let f = c.in_ok-finish_firsts.ensures in
    let w = c.args.run.now.floor.inboxes.width in
    let these = c.as_slice.result.now in
    let may = subst (CanFeedAll c.args.run.now.floor.limits s) (sym c.as_slice.ensures.value) can in
    let fed = after_feeds w s these in
    let mid =
    fed_runs k.out k.number k.holds k.gave k.exact k.jobs k.answers e told answered c.args.run.now c.args.crew.now s
    h c.feed_these.new.run these v.tickets v.width v.limits (v.fed e s h.stands may) in
    let (now, later, order, runs) = f.came e told answered (given_all fed c.args.width) (r.given e told answered fed mid) in
    let home =
    all_home k.out k.number k.holds k.gave k.exact k.jobs k.answers e told answered c.args.run.now c.args.crew.now s
    h c.requires.none in
    let width = f.width ∙ (r.width ∙ v.width) in (
      now,
      subst (λ xs. IsDone w s xs now) c.as_slice.ensures.value
          (round_done k.out k.number k.holds k.gave k.exact k.jobs k.answers e told answered c.args.run.now
          c.args.crew.now s h these home now
          (subst (λ n. OnlyTakesBack (given_all fed n) now) c.requires.width later)
          (subst (λ n. HaveComeInOrder (given_all fed n) now) c.requires.width order)
          (λ u m. all_home k.out k.number k.holds k.gave k.exact k.jobs k.answers e told answered
          c.finish_firsts.new.run c.finish_firsts.new.crew now runs f.none u (subst (λ n. u < n) (sym width) m))
          (none_outs k.out k.number k.holds k.gave k.exact k.jobs k.answers e told answered c.finish_firsts.new.run
          c.finish_firsts.new.crew now runs f.none)),
      runs,
    )

pub returns-in_err-finish_firsts-clause-stopped : goal.returns-in_err-finish_firsts-clause-stopped
returns-in_err-finish_firsts-clause-stopped g c =
    let k = g.C.Crew in
    let v = c.in_ok-feed_these.ensures in
    let r = c.in_ok-give_all.ensures in
    let w = c.args.run.now.floor.inboxes.width in
    let these = c.as_slice.result.now in
    on_refusal c.from_residual-in_err-finish_firsts.result
    (λ e told answered s h can day first.
    let fed = after_feeds w s these in
    let may = subst (CanFeedAll c.args.run.now.floor.limits s) (sym c.as_slice.ensures.value) can in
    let front = subst (λ xs. AreFirst (s.fed ++ xs) day) (sym c.as_slice.ensures.value) first in
    let mid =
    fed_runs k.out k.number k.holds k.gave k.exact k.jobs k.answers e told answered c.args.run.now c.args.crew.now s
    h c.feed_these.new.run these v.tickets v.width v.limits (v.fed e s h.stands may) in
    subst (λ m. Stopped k.out k.number k.holds k.gave k.jobs told m c.args.run.now.floor.limits day
    c.finish_firsts.new.run c.finish_firsts.new.crew) (r.width ∙ v.width)
    (subst (λ l. Stopped k.out k.number k.holds k.gave k.jobs told c.give_all.new.run.floor.inboxes.width l day
    c.finish_firsts.new.run c.finish_firsts.new.crew) (r.limits ∙ v.limits)
    (c.in_err-finish_firsts.ensures.stopped e told answered (given_all fed c.args.width)
    (r.given e told answered fed mid) day
    (subst (λ ts. AreFirst ts day) (sym (given_fed fed c.args.width ∙ fed_are w s these)) front))))
