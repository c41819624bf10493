use Rattle.std.proofs.Common.{◌≡◌, ◌++◌, ◌∙◌, [], None, Err, refl, sym, ap, subst, arith}
use Rattle.std.proofs.lemmas.List.{append-nil}
use Rattle.road_time.specs.Fits.{Fit}
use Rattle.ways_expressway.specs.Results.{AreFirst}
use Rattle.day_import.specs.AskedRounds.{AsksUntil, is_keepers}
use Rattle.day_import.specs.DayFaults.{HasDayFront}
use Rattle.day_import.specs.Published.{HasStepped, HasSteps}
use Rattle.day_import.specs.RoundRuns.{Stopped}
use Rattle.day_import.proofs.FrontLaws.{front_before}
use Rattle.day_import.proofs.AskedRoundLaws.{same_round, none_reading}
use Rattle.day_import.proofs.HaltLaws.{front_of_reading, stepped_rules}
use Rattle.day_import.proofs.StoppedLaws.{front_of_round, round_source, round_sink, round_keeper}
use Rattle.day_import.proofs.ReaderLaws.{given_first}
use Rattle.day_import.proofs.RoundLaws.{stopped_by}
use Rattle.day_import.proofs.rounds.next_round.Goals as goal

pub round-requires-clause-runs : goal.round-requires-clause-runs
round-requires-clause-runs g c =
    let (e, told, answered, s, h, can, number, history, abreast, all) = c.requires.runs in
    (e, told, answered, s, h, can, number, history, abreast)

pub returns-in-None-clause-given : goal.returns-in-None-clause-given
returns-in-None-clause-given g c limits late =
    let none : c.round.new.stop ≡ None = cc in
    c.in-Ok.ensures.read_on.given none limits late

pub returns-in-None-clause-few : goal.returns-in-None-clause-few
returns-in-None-clause-few g c =
    let (e, told, answered, s, h, can, number, history, abreast, all) = c.requires.runs in
    let has = c.room-room.ensures e s h.stands in
    let none : c.round.new.stop ≡ None = cc in
    let few = c.in-Ok.ensures.read_on.few none in
    omega (arith, has, all, few)

pub returns-in-None-clause-full : goal.returns-in-None-clause-full
returns-in-None-clause-full g c few =
    let (e, told, answered, s, h, can, number, history, abreast, all) = c.requires.runs in
    let has = c.room-room.ensures e s h.stands in
    let none : c.round.new.stop ≡ None = cc in
    c.in-Ok.ensures.read_on.full refl none (omega (arith, has, all, few))

pub returns-in-Some-clause-halted : goal.returns-in-Some-clause-halted
returns-in-Some-clause-halted g c e told answered late s h can number history =
    let k = g.C.Crew in
    let f = c.args.run.now.floor in
    let run = c.round.new.run in
    let n = run.floor in
    let v = c.in-Ok.ensures in
    let fed = s.fed ++ c.args.these.now.items in
    let (now, settled, is, runs, abreast) = v.done e told answered s h can number history in
    let first : AreFirst now.fed fed = ([], sym settled.fed ∙ sym (append-nil now.fed)) in
    let fit = subst (Fit fed) (sym v.limits) can.fit in
    record {
      fed = fed;
      fit = can.fit;
      read = λ bytes ahead. given_first f.limits late c.args.ahead.now (g.S.Source.left c.args.source.now) bytes fed
          ahead;
      stopped =
          subst (λ m. Stopped k.out k.number k.holds k.gave k.jobs told m f.limits fed run c.round.new.crew) v.width
          (subst (λ l. Stopped k.out k.number k.holds k.gave k.jobs told n.inboxes.width l fed run c.round.new.crew)
          v.limits
          (stopped_by k.out k.number k.holds k.gave k.exact k.jobs k.answers e told answered run c.round.new.crew now
          runs run refl fed first));
      front = λ exact begin had. subst (λ x. HasDayFront x e fed begin (g.O.Sink.written c.round.new.sink))
          (sym c.reading_stopped.ensures)
          (front_of_reading c.in-Some.stop e fed begin _
          (front_before n.inboxes.width n.limits e now runs.stands.terms.some runs.stands.sound
          (runs.right exact) fed first fit begin _ (settled.text begin had)));
      steps = λ exact before have. subst
          (λ l. HasSteps e.tariffs fed l.backlog before (g.P.Publisher.posted c.round.new.publisher)) v.limits
          (stepped_rules n.inboxes.width n.limits e now runs.stands.terms.some runs.stands.sound
          (runs.right exact) fed first fit before _ _
          (subst (λ l. HasStepped l.backlog now before (g.P.Publisher.posted c.round.new.publisher)) (sym v.limits)
          (settled.steps before have)) refl);
    }

pub returns-in-Err-clause-halted : goal.returns-in-Err-clause-halted
returns-in-Err-clause-halted g c e told answered late s h can number history =
    let f = c.args.run.now.floor in
    let xs = c.args.these.now.items in
    let fed = s.fed ++ xs in
    let v = c.in-Err.ensures in
    record {
      fed = fed;
      fit = can.fit;
      read = λ bytes ahead. given_first f.limits late c.args.ahead.now (g.S.Source.left c.args.source.now) bytes fed
          ahead;
      stopped = v.stopped e told answered s h can fed ([], sym (append-nil fed));
      front = λ exact begin had. subst (λ x. HasDayFront x e fed begin (g.O.Sink.written c.round.new.sink))
          (sym c.round_stopped.ensures)
          (front_of_round c.in-Err.fault c.round.new.stop e fed begin _
          (v.front e told answered s h can number history exact begin had));
      steps = λ exact before have. stepped_rules f.inboxes.width f.limits e s h.stands.terms.some h.stands.sound
          (h.right exact) fed (xs, refl) can.fit before _ _ have v.published;
    }

pub returns-in-None-clause-ended : goal.returns-in-None-clause-ended
returns-in-None-clause-ended g c more =
    let none : c.round.new.stop ≡ None = cc in
    (c.in-Ok.ensures.read_on.ended none more).0

pub returns-in-Err-clause-source : goal.returns-in-Err-clause-source
returns-in-Err-clause-source g c =
    let v = c.in-Err.ensures in
    round_source c.in-Err.fault c.round.new.stop _ (ap Err c.round_stopped.ensures) _ _ _ _ v.later v.cause v.stands
    v.sure

pub returns-in-Err-clause-sink : goal.returns-in-Err-clause-sink
returns-in-Err-clause-sink g c =
    round_sink c.in-Err.fault c.round.new.stop _ (ap Err c.round_stopped.ensures) _ _ _ _ _ refl c.in-Err.ensures.sink

pub returns-in-Err-clause-keeper : goal.returns-in-Err-clause-keeper
returns-in-Err-clause-keeper g c =
    round_keeper c.in-Err.fault c.round.new.stop _ (ap Err c.round_stopped.ensures) _ _ _ _ _ refl
    c.in-Err.ensures.keeper

pub returns-in-Err-clause-asked : goal.returns-in-Err-clause-asked
returns-in-Err-clause-asked g c =
    subst (λ b. AsksUntil b (g.K.Keeper.plan c.args.keeper.now) (g.K.Keeper.plan c.round.new.keeper))
    (sym (ap is_keepers c.round_stopped.ensures ∙ same_round c.in-Err.fault c.round.new.stop)) c.in-Err.ensures.asked

pub returns-in-Some-clause-asked : goal.returns-in-Some-clause-asked
returns-in-Some-clause-asked g c =
    subst (λ b. AsksUntil b (g.K.Keeper.plan c.args.keeper.now) (g.K.Keeper.plan c.round.new.keeper))
    (sym (ap is_keepers c.reading_stopped.ensures ∙ none_reading c.in-Some.stop)) c.in-Ok.ensures.asked
