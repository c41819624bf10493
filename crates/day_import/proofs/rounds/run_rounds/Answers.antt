use Rattle.std.proofs.Common.{◌≡◌, ◌-◌, ◌<◌, ◌≤◌, ◌++◌, ◌∙◌, ◌∷◌, [], None, false, length, refl, sym, ap, subst}
use Rattle.std.proofs.Common.{length-append, arith, rules}
use Rattle.std.proofs.lemmas.List.{append-nil}
use Rattle.day_reading.specs.Ahead.{has_more}
use Rattle.day_floor.specs.Answers.{history_of}
use Rattle.day_floor.specs.Shares.{start}
use Rattle.day_import.specs.DayFaults.{HasDayFront}
use Rattle.day_import.specs.Readers.{HasGiven}
use Rattle.day_import.specs.PlannedRounds.{AreRounds, after_round, are_left}
use Rattle.day_import.specs.RoundRuns.{AllComeInOrder, after_feeds, given_all}
use Rattle.day_import.specs.AskedRounds.{AsksUntil, is_keepers}
use Rattle.day_import.proofs.AskedRoundLaws.{none_asked, asked_on, none_reading}
use Rattle.day_import.proofs.DayLaws.{on_start, cut_at, next_can, fewer_left}
use Rattle.day_import.proofs.FrontLaws.{front_before}
use Rattle.day_import.proofs.HaltLaws.{front_of_reading, stepped_rules}
use Rattle.day_import.proofs.LoopLaws.{no_more, some_left}
use Rattle.day_import.proofs.PublishLaws.{steps_under}
use Rattle.day_import.proofs.ReaderLaws.{given_first, given_more}
use Rattle.day_import.proofs.RoundLaws.{stopped_by}
use Rattle.day_import.proofs.rounds.run_rounds.Goals as goal

pub returns-in-Some-clause-halted : goal.returns-in-Some-clause-halted
returns-in-Some-clause-halted g c e told answered late h gathers number history =
    let k = g.C.Crew in
    let f = c.args.run.now.floor in
    let on = on_start f.limits late e c.args.ahead.now (g.S.Source.left c.args.source.now)
    (g.O.Sink.written c.args.sink.now) (g.P.Publisher.posted c.args.publisher.now) in
    record {
      fed = [];
      fit = h.stands.sound.fit;
      read = λ bytes ahead. given_first f.limits late c.args.ahead.now (g.S.Source.left c.args.source.now) bytes []
          ahead;
      stopped =
          stopped_by k.out k.number k.holds k.gave k.exact k.jobs k.answers e told answered c.args.run.now
          c.args.crew.now start h c.args.run.now refl [] ([], refl);
      front = λ exact. subst
          (λ x. HasDayFront x e [] (g.O.Sink.written c.args.sink.now) (g.O.Sink.written c.args.sink.now))
          (sym c.reading_stopped.ensures)
          (front_of_reading c.in-Some.stop e [] _ _
          (front_before f.inboxes.width f.limits e start h.stands.terms.some h.stands.sound (h.right exact) []
          ([], refl) h.stands.sound.fit _ _ on.text));
      steps = λ exact. stepped_rules f.inboxes.width f.limits e start h.stands.terms.some h.stands.sound
          (h.right exact) [] ([], refl) h.stands.sound.fit _ _ _ on.steps refl;
    }

pub day-init : goal.day-init
day-init g c =
    let (e, told, answered, late, h, gathers, number, history, abreast) = c.requires.runs in
    let f = c.args.run.now.floor in
    let r = c.read_on.ensures in
    let none : c.read_on.result ≡ None = cc in
    let room = c.room-room.ensures e start h.stands in
    let few = r.read_on.few none in
    record {
      none = c.requires.none;
      width = refl;
      limits = refl;
      crew = refl;
      source_same = r.source_same;
      unfailed = r.read_on.unfailed none;
      read = r.read;
      publisher = refl;
      same = refl;
      source_stands = r.stands (λ e. let no : ⊥ = cc in no);
      source_sure = λ never. (r.sure never).1;
      sink_stands = refl;
      sink_sure = λ e. e;
      keeper_stands = refl;
      keeper_sure = λ e. e;
      asked = none_asked (g.K.Keeper.plan c.args.keeper.now);
      few = omega (arith, room, few);
      full = λ less. r.read_on.full refl none (omega (arith, room, less));
      at = λ e told answered late h gathers number history.
          let on = on_start f.limits late e c.args.ahead.now (g.S.Source.left c.args.source.now)
          (g.O.Sink.written c.args.sink.now) (g.P.Publisher.posted c.args.publisher.now) in
          (start, r.read_on.given none f.limits late, on.text, on.steps, refl, refl, h, c.requires.runs.8, ([], refl));
    }

pub next_round-requires-clause-runs : goal.next_round-requires-clause-runs
next_round-requires-clause-runs g c =
    let inv = c.day.invariant in
    let (e, told, answered, late, h, gathers, number, history, abreast) = c.requires.runs in
    let (s, given, text, steps, all, is, runs, even, made) = inv.at e told answered late h gathers number history in
    let can =
    next_can c.args.run.now.floor.limits c.day.run.floor.limits inv.limits late s c.day.these.items c.args.ahead.now
    c.day.ahead _ _ given gathers all inv.few in
    (e, told, answered, s, runs, can, number, history ∙ ap history_of (sym inv.same), even, all)

pub next_round-requires-clause-full : goal.next_round-requires-clause-full
next_round-requires-clause-full g c less =
    c.day.invariant.full
    (subst (λ l. length c.day.these.items < l.backlog) c.day.invariant.limits less)

pub returns-in-Err-clause-halted : goal.returns-in-Err-clause-halted
returns-in-Err-clause-halted g c e told answered late h gathers number history =
    let k = g.C.Crew in
    let inv = c.day.invariant in
    let f = c.args.run.now.floor in
    let d = c.day.run.floor in
    let (s, given, text, steps, all, is, runs, even, made) = inv.at e told answered late h gathers number history in
    let can = next_can f.limits d.limits inv.limits late s c.day.these.items c.args.ahead.now c.day.ahead _ _ given
    gathers all inv.few in
    cut_at k.out k.number k.holds k.gave k.exact k.jobs c.in-Err.fault e told d.inboxes.width f.inboxes.width d.limits
    f.limits inv.width inv.limits late s (s.fed ++ c.day.these.items) c.args.ahead.now c.day.ahead _ _ _ _ _ _ _ _
    c.next_round.new.run c.next_round.new.crew given text steps
    (c.in-Err.ensures.halted e told answered late s runs can number (history ∙ ap history_of (sym inv.same)))

pub day-preserved : goal.day-preserved
day-preserved g c =
    let inv = c.day.invariant in
    let v = c.in-Ok.ensures in
    let f = c.args.run.now.floor in
    let d = c.day.run.floor in
    let next = c.next_round.new.these.items in
    record {
      none = v.none;
      width = v.width ∙ inv.width;
      limits = v.limits ∙ inv.limits;
      crew = v.crew ∙ inv.crew;
      source_same = v.source_same ∙ inv.source_same;
      unfailed = v.unfailed;
      read = λ lines bytes h. v.read lines bytes (inv.read lines bytes h);
      publisher = v.publisher ∙ inv.publisher;
      same = v.same ∙ inv.same;
      source_stands = v.source.passed ∙ inv.source_stands;
      source_sure = λ e. (v.source.sure (inv.source_sure e)).1;
      sink_stands = v.sink.still (λ e. let no : ⊥ = cc in no) ∙ inv.sink_stands;
      sink_sure = λ e. (v.sink.sure (inv.sink_sure e)).1;
      keeper_stands = v.keeper.still (λ e. let no : ⊥ = cc in no) ∙ inv.keeper_stands;
      keeper_sure = λ e. (v.keeper.sure (inv.keeper_sure e)).1;
      asked = asked_on false _ _ _ inv.asked v.asked;
      few = subst (λ l. length next ≤ l.backlog) inv.limits v.few;
      full = subst (λ l. length next < l.backlog → has_more c.next_round.new.ahead ≡ false) inv.limits v.full;
      at = λ e told answered late h gathers number history.
          let (s, given, text, steps, all, is, runs, even, made) = inv.at e told answered late h gathers number history in
          let can =
          next_can f.limits d.limits inv.limits late s c.day.these.items c.args.ahead.now c.day.ahead _ _ given
          gathers all inv.few in
          let (now, settled, count, last, still) =
          v.done e told answered s runs can number (history ∙ ap history_of (sym inv.same)) in (
            now,
            subst (λ ts. HasGiven f.limits late (ts ++ next) c.args.ahead.now c.next_round.new.ahead
                (g.S.Source.left c.args.source.now) (g.S.Source.left c.next_round.new.source)) (sym settled.fed)
                (given_more f.limits late (s.fed ++ c.day.these.items) next c.args.ahead.now c.day.ahead
                c.next_round.new.ahead _ _ _ given (v.given f.limits late)),
            settled.text _ text,
            steps_under d.limits f.limits inv.limits s now _ _ settled.steps _ steps,
            settled.settled,
            count,
            last,
            still,
            (
              record { before = s; xs = c.day.these.items; backs = settled.backs } ∷ made.0,
              (
                inv.few,
                λ less. ap are_left (v.ended (inv.full less)),
                settled.fed,
                subst (λ w. now ≡ after_round w
                    (record { before = s; xs = c.day.these.items; backs = settled.backs })) inv.width settled.is,
                subst (λ w. AllComeInOrder (given_all (after_feeds w s c.day.these.items) w) settled.backs) inv.width
                    settled.come,
                subst (AreRounds f.inboxes.width f.limits.backlog made.0 s)
                    (some_left c.day.these.items (search rules)) made.1,
              ),
            ),
          );
    }

pub day-smaller : goal.day-smaller
day-smaller g c =
    let inv = c.day.invariant in
    let v = c.in-Ok.ensures in
    let f = c.args.run.now.floor in
    let d = c.day.run.floor in
    let xs = c.day.these.items in
    let (e, told, answered, late, h, gathers, number, history, abreast) = c.requires.runs in
    let (s, given, text, steps, all, is, runs, even, made) = inv.at e told answered late h gathers number history in
    let can =
    next_can f.limits d.limits inv.limits late s xs c.args.ahead.now c.day.ahead _ _ given gathers all inv.few in
    let (now, settled, count, last, still) =
    v.done e told answered s runs can number (history ∙ ap history_of (sym inv.same)) in
    let long = ap length settled.fed ∙ length-append s.fed xs in
    let full = settled.settled in
    let more : 1 ≤ length xs = search rules in
    let few : length now.fed ≤ d.limits.lines =
    subst (λ l. length now.fed ≤ l.lines) v.limits last.stands.sound.fit.lines in
    subst (λ l. l.lines - c.in-Ok.count < d.limits.lines - c.day.settled) (sym v.limits)
    (fewer_left d.limits.lines c.day.settled c.in-Ok.count (length xs) (omega (arith, long, full, count, all, is)) more
    (omega (arith, few, full, count)))

pub returns-clause-ended : goal.returns-clause-ended
returns-clause-ended g c =
    let (e, told, answered, late, h, gathers, number, history, abreast) = c.requires.runs in
    let empty : length c.day.these.items ≡ 0 = search rules in
    let some = h.stands.terms.some_backlog in
    c.day.invariant.full (omega (arith, empty, some))

pub returns-clause-done : goal.returns-clause-done
returns-clause-done g c e told answered late h gathers number history =
    let (s, given, text, steps, all, is, runs, even, made) =
    c.day.invariant.at e told answered late h gathers number history in
    let empty : length c.day.these.items ≡ 0 = search rules in
    let none = ap (λ xs. s.fed ++ xs) (no_more c.day.these.items empty) ∙ append-nil s.fed in (
      s,
      record {
        given =
            subst (λ xs. HasGiven c.args.run.now.floor.limits late xs c.args.ahead.now c.day.ahead
            (g.S.Source.left c.args.source.now) (g.S.Source.left c.day.source)) none given;
        text = text;
        steps =
            steps;
      },
      all,
      is,
      runs,
      (
        made.0,
        subst (λ xs. AreRounds c.args.run.now.floor.inboxes.width c.args.run.now.floor.limits.backlog made.0 s
            (are_left xs)) (no_more c.day.these.items empty) made.1,
      ),
    )

pub returns-in-Err-clause-read : goal.returns-in-Err-clause-read
returns-in-Err-clause-read g c lines bytes h = c.in-Err.ensures.read lines bytes (c.day.invariant.read lines bytes h)

pub returns-in-Some-clause-asked : goal.returns-in-Some-clause-asked
returns-in-Some-clause-asked g c =
    let plan = g.K.Keeper.plan c.args.keeper.now in
    subst (λ b. AsksUntil b plan plan)
    (sym (ap is_keepers c.reading_stopped.ensures ∙ none_reading c.in-Some.stop)) (none_asked plan)

pub returns-in-Err-clause-asked : goal.returns-in-Err-clause-asked
returns-in-Err-clause-asked g c =
    asked_on (is_keepers c.in-Err.fault) _ _ _ c.day.invariant.asked c.in-Err.ensures.asked
