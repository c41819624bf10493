use Rattle.std.proofs.Common.{◌≡◌, ◌≤◌, ◌<◌, ◌+◌, ◌-◌, ◌∙◌, ◌++◌, [], length, refl, sym, ap, subst, arith}
use Rattle.std.proofs.lemmas.List.{append-nil}
use Rattle.ways_expressway.specs.Results.{AreFirst}
use Rattle.day_plan.specs.Draws.{after_draws}
use Rattle.day_reading.specs.Ahead.{has_more}
use Rattle.day_import.specs.RoundRuns.{after_feeds, after_backs, settled_all}
use Rattle.day_import.specs.Drawn.{turn_size, after_size, after_giving, AreFinished}
use Rattle.day_import.specs.AskedRounds.{AsksUntil, is_keepers}
use Rattle.day_import.specs.DayFaults.{HasDayFront}
use Rattle.day_import.specs.Readers.{HasGiven}
use Rattle.day_import.proofs.AskedRoundLaws.{none_asked, same_settling, none_reading}
use Rattle.day_import.proofs.DrawnLaws.{size_drawn}
use Rattle.day_import.proofs.FrontLaws.{front_before}
use Rattle.day_import.proofs.HaltLaws.{front_of_settling, front_of_reading, stepped_rules}
use Rattle.day_import.proofs.LoopLaws.{some_room}
use Rattle.day_import.proofs.ReaderLaws.{given_can, given_first}
use Rattle.day_import.proofs.RoundLaws.{stopped_by}
use Rattle.day_import.proofs.turns.next_turn.Goals as goal

pub turn-requires-clause-runs : goal.turn-requires-clause-runs
turn-requires-clause-runs g c =
    let f = c.args.run.now.floor in
    let xs = c.as_slice.result.now in
    let (e, told, answered, late, s, h, gathers, number, history, abreast) = c.requires.runs in
    let given : HasGiven f.limits late xs c.args.ahead.now c.gather.new.ahead (g.S.Source.left c.args.source.now)
    (g.S.Source.left c.gather.new.source) =
    subst (λ ys. HasGiven f.limits late ys c.args.ahead.now c.gather.new.ahead (g.S.Source.left c.args.source.now)
    (g.S.Source.left c.gather.new.source)) (sym c.as_slice.ensures.value) (c.in-Ok.ensures.given f.limits late) in
    let few : length xs ≤ c.room-room.result =
    (let low =
    subst (λ ys. length ys ≤ c.some_of-count.result) (sym c.as_slice.ensures.value) c.in-Ok.ensures.few in let top =
    c.some_of-count.ensures.few in omega (arith, low, top)) in (
      e,
      told,
      answered,
      s,
      h,
      given_can f.limits late s xs c.args.ahead.now c.gather.new.ahead _ _ c.room-room.result
          given gathers (c.room-room.ensures e s h.stands) few,
      number,
      history,
      abreast,
    )

pub returns-in-Err-clause-halted : goal.returns-in-Err-clause-halted
returns-in-Err-clause-halted g c e told answered late s h gathers number history =
    let k = g.C.Crew in
    let f = c.args.run.now.floor in
    let first : AreFirst s.fed s.fed = ([], sym (append-nil s.fed)) in
    record {
      fed = s.fed;
      fit = h.stands.sound.fit;
      read = λ bytes ahead. given_first f.limits late c.args.ahead.now (g.S.Source.left c.args.source.now) bytes s.fed
          ahead;
      stopped =
          stopped_by k.out k.number k.holds k.gave k.exact k.jobs k.answers e told answered c.args.run.now
          c.args.crew.now s h c.args.run.now refl s.fed first;
      front = λ exact begin had. subst (λ x. HasDayFront x e s.fed begin (g.O.Sink.written c.args.sink.now))
          (sym c.reading_stopped.ensures)
          (front_of_reading c.in-Err.stop e s.fed begin _
          (front_before f.inboxes.width f.limits e s h.stands.terms.some h.stands.sound (h.right exact) s.fed first
          h.stands.sound.fit begin _ had));
      steps = λ exact before have. stepped_rules f.inboxes.width f.limits e s h.stands.terms.some h.stands.sound
          (h.right exact) s.fed first h.stands.sound.fit before _ _ have refl;
    }

pub returns-in-Ok-turn-clause-done : goal.returns-in-Ok-turn-clause-done
returns-in-Ok-turn-clause-done g c e told answered late s h gathers number history =
    let f = c.args.run.now.floor in
    let xs = c.as_slice.result.now in
    let given : HasGiven f.limits late xs c.args.ahead.now c.gather.new.ahead (g.S.Source.left c.args.source.now)
    (g.S.Source.left c.gather.new.source) =
    subst (λ ys. HasGiven f.limits late ys c.args.ahead.now c.gather.new.ahead (g.S.Source.left c.args.source.now)
    (g.S.Source.left c.gather.new.source)) (sym c.as_slice.ensures.value) (c.in-Ok.ensures.given f.limits late) in
    let few : length xs ≤ c.room-room.result =
    (let low =
    subst (λ ys. length ys ≤ c.some_of-count.result) (sym c.as_slice.ensures.value) c.in-Ok.ensures.few in let top =
    c.some_of-count.ensures.few in omega (arith, low, top)) in
    let has = c.room-room.ensures e s h.stands in
    let can = given_can f.limits late s xs c.args.ahead.now c.gather.new.ahead _ _ c.room-room.result given gathers has
    few in
    let (now, j, turned, is, runs, abreast, backs) = c.in-Ok-turn.ensures.done e told answered s h can number history in
    let low : length xs ≤ c.some_of-count.result =
    subst (λ ys. length ys ≤ c.some_of-count.result) (sym c.as_slice.ensures.value) c.in-Ok.ensures.few in
    let room : c.room-room.result ≡ (s.settled + f.limits.backlog) - length s.fed = omega (arith, has) in
    let some = c.some_of-count.ensures in
    let sized =
    subst (λ n. (c.some_of-count.result ≡ turn_size n (has_more c.args.ahead.now) c.args.rng.now)
    × (c.some_of-count.new.rng ≡ after_size n (has_more c.args.ahead.now) c.args.rng.now)) room
    (subst (λ b. (c.some_of-count.result ≡ turn_size c.room-room.result b c.args.rng.now)
    × (c.some_of-count.new.rng ≡ after_size c.room-room.result b c.args.rng.now)) c.more.ensures.exact
    (size_drawn c.room-room.result c.more.result c.args.rng.now c.some_of-count.new.rng c.some_of-count.result
    some.drawn some.no_room some.none_left)) in
    let left = c.turn.new.rng in
    let w = c.args.width in (
      xs,
      now,
      j,
      given,
      turned,
      is,
      runs,
      abreast,
      λ all more. subst (λ ys. 1 ≤ length ys) (sym c.as_slice.ensures.value)
          (c.in-Ok.ensures.some more
          (c.some_of-count.ensures.some
          (some_room s s.fed c.room-room.result f.limits.backlog refl all has h.stands.terms.some_backlog)
          (c.more.ensures.exact ∙ more))),
      record {
        few = subst (λ n. length xs ≤ n) sized.0 low;
        full = λ less. c.in-Ok.ensures.full
            (subst (λ ys. length ys < c.some_of-count.result) c.as_slice.ensures.value
            (subst (λ n. length xs < n) (sym sized.0) less));
      },
      (
        backs.0,
        record {
          is = subst (λ m. now ≡ settled_all m (after_backs (after_giving w c.some_of-count.new.rng
              (after_feeds m s xs)) backs.0)) (sym c.requires.width) backs.1
              ∙ ap (λ r. settled_all w (after_backs (after_giving w r (after_feeds w s xs)) backs.0)) sized.1;
          finished = subst (λ r. AreFinished (after_giving w r (after_feeds w s xs)) (after_draws w r) left backs.0)
              sized.1
              (subst (λ m. AreFinished (after_giving w c.some_of-count.new.rng (after_feeds m s xs))
              (after_draws w c.some_of-count.new.rng) left backs.0) (sym c.requires.width) backs.2);
        },
      ),
    )

pub returns-in-Err-turn-clause-halted : goal.returns-in-Err-turn-clause-halted
returns-in-Err-turn-clause-halted g c e told answered late s h gathers number history =
    let f = c.args.run.now.floor in
    let xs = c.as_slice.result.now in
    let given : HasGiven f.limits late xs c.args.ahead.now c.gather.new.ahead (g.S.Source.left c.args.source.now)
    (g.S.Source.left c.gather.new.source) =
    subst (λ ys. HasGiven f.limits late ys c.args.ahead.now c.gather.new.ahead (g.S.Source.left c.args.source.now)
    (g.S.Source.left c.gather.new.source)) (sym c.as_slice.ensures.value) (c.in-Ok.ensures.given f.limits late) in
    let few : length xs ≤ c.room-room.result =
    (let low =
    subst (λ ys. length ys ≤ c.some_of-count.result) (sym c.as_slice.ensures.value) c.in-Ok.ensures.few in let top =
    c.some_of-count.ensures.few in omega (arith, low, top)) in
    let can = given_can f.limits late s xs c.args.ahead.now c.gather.new.ahead _ _ c.room-room.result given gathers
    (c.room-room.ensures e s h.stands) few in
    let fed = s.fed ++ xs in
    let v = c.in-Err-turn.ensures in
    record {
      fed = fed;
      fit = can.fit;
      read = λ bytes ahead. given_first f.limits late c.gather.new.ahead (g.S.Source.left c.gather.new.source) bytes fed
          (given.reads bytes s.fed ahead);
      stopped = v.stopped e told answered s h can fed ([], sym (append-nil fed));
      front = λ exact begin had. subst (λ x. HasDayFront x e fed begin (g.O.Sink.written c.turn.new.sink))
          (sym c.settling_stopped.ensures)
          (front_of_settling c.in-Err-turn.fault e fed begin _
          (v.front e told answered s h can number history exact begin had));
      steps = λ exact before have. stepped_rules f.inboxes.width f.limits e s h.stands.terms.some h.stands.sound
          (h.right exact) fed (xs, refl) can.fit before _ _ have v.published;
    }

pub returns-in-Err-clause-asked : goal.returns-in-Err-clause-asked
returns-in-Err-clause-asked g c =
    let plan = g.K.Keeper.plan c.args.keeper.now in
    subst (λ b. AsksUntil b plan plan)
    (sym (ap is_keepers c.reading_stopped.ensures ∙ none_reading c.in-Err.stop)) (none_asked plan)

pub returns-in-Err-turn-clause-asked : goal.returns-in-Err-turn-clause-asked
returns-in-Err-turn-clause-asked g c =
    subst (λ b. AsksUntil b (g.K.Keeper.plan c.args.keeper.now) (g.K.Keeper.plan c.turn.new.keeper))
    (sym (ap is_keepers c.settling_stopped.ensures ∙ same_settling c.in-Err-turn.fault)) c.in-Err-turn.ensures.asked
