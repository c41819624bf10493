use Rattle.std.proofs.Common.{◌≡◌, ◌+◌, ◌-◌, ◌*◌, ◌<◌, ◌≤◌, ◌∙◌, ◌∷◌, [], false, length, refl, sym, ap, subst, arith}
use Rattle.std.proofs.Common.{length-append}
use Rattle.day_reading.specs.Ahead.{has_more}
use Rattle.day_floor.specs.Answers.{history_of}
use Rattle.day_floor.specs.Shares.{start, mark}
use Rattle.day_import.specs.Tasks.{out_at}
use Rattle.day_import.specs.Drawn.{DrawsTurn, TurnMade, AreTurns, HasMade}
use Rattle.day_import.specs.AskedRounds.{is_keepers}
use Rattle.day_import.proofs.AskedRoundLaws.{none_asked, asked_on}
use Rattle.day_import.proofs.DayLaws.{on_start, on_next, on_gathers, cut_at}
use Rattle.day_import.proofs.TurnedLaws.{some_done, less_left, less_by, tickets_are, given_few, no_ticket, start_mark}
use Rattle.day_import.proofs.TurnedLaws.{must_more}
use Rattle.day_import.proofs.turns.run_turns.Goals as goal

pub day-init : goal.day-init
day-init g c =
    record {
      width = refl;
      limits = refl;
      crew = refl;
      source_same = refl;
      unfailed = c.requires.unfailed;
      read = λ lines bytes h. h;
      publisher = refl;
      same = refl;
      source_stands = refl;
      source_sure = λ e. e;
      sink_stands = refl;
      sink_sure = λ e. e;
      keeper_stands = refl;
      keeper_sure = λ e. e;
      asked = none_asked (g.K.Keeper.plan c.args.keeper.now);
      at = λ e told answered late h gathers number history. (
        start,
        on_start c.args.run.now.floor.limits late e c.args.ahead.now (g.S.Source.left c.args.source.now)
            (g.O.Sink.written c.args.sink.now) (g.P.Publisher.posted c.args.publisher.now),
        start_mark c.args.run.now.floor.inboxes.width,
        refl,
        h,
        c.requires.runs.8,
        refl,
        ([], (refl, refl)),
      );
    }

pub next_turn-requires-clause-runs : goal.next_turn-requires-clause-runs
next_turn-requires-clause-runs g c =
    let inv = c.day.invariant in
    let (e, told, answered, late, h, gathers, number, history, abreast) = c.requires.runs in
    let (s, on, marked, is, runs, even, waits, made) = inv.at e told answered late h gathers number history in (
      e,
      told,
      answered,
      late,
      s,
      runs,
      on_gathers c.args.run.now.floor.limits c.day.run.floor.limits inv.limits late e
          c.args.ahead.now c.day.ahead _ _ _ _ _ _ s on gathers,
      number,
      history ∙ ap history_of (sym inv.same),
      even,
    )

pub returns-in-Err-clause-halted : goal.returns-in-Err-clause-halted
returns-in-Err-clause-halted g c e told answered late h gathers number history =
    let k = g.C.Crew in
    let inv = c.day.invariant in
    let f = c.args.run.now.floor in
    let d = c.day.run.floor in
    let (s, on, marked, is, runs, even, waits, made) = inv.at e told answered late h gathers number history in
    cut_at k.out k.number k.holds k.gave k.exact k.jobs c.in-Err.fault e told d.inboxes.width f.inboxes.width d.limits
    f.limits inv.width inv.limits late s s.fed c.args.ahead.now c.day.ahead _ _ _ _ _ _ _ _ c.next_turn.new.run
    c.next_turn.new.crew on.given on.text on.steps
    (c.in-Err.ensures.halted e told answered late s runs
    (on_gathers f.limits d.limits inv.limits late e c.args.ahead.now c.day.ahead _ _ _ _ _ _ s on gathers) number
    (history ∙ ap history_of (sym inv.same)))

pub pending-pending-requires : goal.pending-pending-requires
pending-pending-requires g c =
    let inv = c.day.invariant in
    let f = c.args.run.now.floor in
    let d = c.day.run.floor in
    let (e, told, answered, late, h, gathers, number, history, abreast) = c.requires.runs in
    let (s, on, marked, is, runs, even, waits, made) = inv.at e told answered late h gathers number history in
    let (xs, now, j, given, turned, count, last, still, some, draws, backs) =
    c.in-Ok.ensures.done e told answered late s runs
    (on_gathers f.limits d.limits inv.limits late e c.args.ahead.now c.day.ahead _ _ _ _ _ _ s on gathers) number
    (history ∙ ap history_of (sym inv.same)) in
    record { setting = e; state = now; stands = last.stands }

pub day-preserved : goal.day-preserved
day-preserved g c =
    let inv = c.day.invariant in
    let v = c.in-Ok.ensures in
    let f = c.args.run.now.floor in
    let d = c.day.run.floor in
    record {
      width = v.width ∙ inv.width;
      limits = v.limits ∙ inv.limits;
      crew = v.crew ∙ inv.crew;
      source_same = v.source_same ∙ inv.source_same;
      unfailed = v.unfailed;
      read = λ lines bytes h. v.read lines bytes (inv.read lines bytes h);
      publisher = v.publisher ∙ inv.publisher;
      same = v.same ∙ inv.same;
      source_stands = v.source.still (λ e. let no : ⊥ = cc in no) ∙ inv.source_stands;
      source_sure = λ e. (v.source.sure (inv.source_sure e)).1;
      sink_stands = v.sink.still (λ e. let no : ⊥ = cc in no) ∙ inv.sink_stands;
      sink_sure = λ e. (v.sink.sure (inv.sink_sure e)).1;
      keeper_stands = v.keeper.still (λ e. let no : ⊥ = cc in no) ∙ inv.keeper_stands;
      keeper_sure = λ e. (v.keeper.sure (inv.keeper_sure e)).1;
      asked = asked_on false _ _ _ inv.asked v.asked;
      at = λ e told answered late h gathers number history.
          let (s, on, marked, is, runs, even, waits, made) = inv.at e told answered late h gathers number history in
          let (xs, now, j, given, turned, count, last, still, some, draws, backs) =
          v.done e told answered late s runs
          (on_gathers f.limits d.limits inv.limits late e c.args.ahead.now c.day.ahead _ _ _ _ _ _ s on gathers)
          number (history ∙ ap history_of (sym inv.same)) in
          let t : TurnMade =
          record { before = s; generator = c.day.rng; more = has_more c.day.ahead; xs = xs; backs = backs.0 } in (
            now,
            on_next f.limits d.limits inv.limits late e c.args.ahead.now c.day.ahead c.next_turn.new.ahead _ _ _ _ _ _ _
                _ _ s now xs on given turned.fed turned.text turned.steps,
            turned.marked ∙ ap (λ n. mark n now) inv.width,
            count,
            last,
            still,
            c.pending-pending.ensures e now last.stands,
            (
              t ∷ made.0,
              (
                subst
                    (λ l. DrawsTurn l.backlog s c.day.rng xs (has_more c.day.ahead)
                    (has_more c.next_turn.new.ahead)) inv.limits draws,
                turned.fed,
                subst (λ l. HasMade c.args.plan.now.width l.backlog t now c.next_turn.new.rng) inv.limits backs.1,
                made.1,
              ),
            ),
          );
    }

pub day-smaller : goal.day-smaller
day-smaller g c =
    let k = g.C.Crew in
    let inv = c.day.invariant in
    let v = c.in-Ok.ensures in
    let f = c.args.run.now.floor in
    let d = c.day.run.floor in
    let run = c.day.run in
    let after = c.next_turn.new.run in
    let (e, told, answered, late, h, gathers, number, history, abreast) = c.requires.runs in
    let (s, on, marked, is, runs, even, waits, made) = inv.at e told answered late h gathers number history in
    let (xs, now, j, given, turned, count, last, still, some, draws, backs) =
    v.done e told answered late s runs
    (on_gathers f.limits d.limits inv.limits late e c.args.ahead.now c.day.ahead _ _ _ _ _ _ s on gathers) number
    (history ∙ ap history_of (sym inv.same)) in
    let lines = d.limits.lines in
    let before = c.day.settled + c.day.pending in
    let pending = c.pending-pending.ensures e now last.stands in
    let long = ap length turned.fed ∙ length-append s.fed xs in
    let total : c.in-Ok.count + c.pending-pending.result ≡ before + length xs =
    omega (arith, pending, count, long, waits, is) in
    let here : s.settled ≡ mark d.inboxes.width s = marked ∙ ap (λ n. mark n s) (sym inv.width) in
    let go = c.goes_on.ensures.some c.day-test.true in
    let done : 1 ≤ length xs + j =
    some_done (mark d.inboxes.width s ≡ length s.fed) (length xs) j xs refl turned.idle
    (λ p. some (here ∙ p)
    (sym c.more.ensures.exact ∙ must_more c.more.result c.day.pending s.settled (length s.fed) go
    (here ∙ p) waits)) in
    let small : length s.fed ≤ lines = runs.stands.sound.fit.lines in
    let large : length now.fed ≤ lines = subst (λ l. length now.fed ≤ l.lines) v.limits last.stands.sound.fit.lines in
    let within : before + length xs ≤ lines = omega (arith, large, long, waits, is) in
    let o = tickets_are k.out k.number k.holds k.gave k.exact k.jobs k.answers e told answered run c.day.crew s runs in
    let p = tickets_are k.out k.number k.holds k.gave k.exact k.jobs k.answers e told answered after
    c.next_turn.new.crew now last in
    let p' : length after.tickets.items ≡ out_at now.share d.inboxes.width = p ∙ ap (out_at now.share) v.width in
    subst (λ l. (l.lines - (c.in-Ok.count + c.pending-pending.result)) +
    (2 * (2 * l.lines - after.floor.given) + length after.tickets.items) < (lines - before) +
    (2 * (2 * lines - run.floor.given) + length run.tickets.items)) (sym v.limits)
    (subst (λ m. (lines - m) + (2 * (2 * lines - after.floor.given) + length after.tickets.items) < (lines - before) +
    (2 * (2 * lines - run.floor.given) + length run.tickets.items)) (sym total)
    (less_by lines before (length xs) s.given now.given run.floor.given after.floor.given
    (out_at s.share d.inboxes.width) (out_at now.share d.inboxes.width) (length run.tickets.items)
    (length after.tickets.items) j
    runs.stands.given_is last.stands.given_is o p'
    (less_left lines before (length xs) s.given now.given (out_at s.share d.inboxes.width)
    (out_at now.share d.inboxes.width) j within
    (given_few k.out k.number k.holds k.gave k.exact k.jobs k.answers e told answered run c.day.crew s runs lines small)
    (given_few k.out k.number k.holds k.gave k.exact k.jobs k.answers e told answered after c.next_turn.new.crew now
    last lines large) turned.worked done)))

pub returns-clause-none : goal.returns-clause-none
returns-clause-none g c =
    let k = g.C.Crew in
    let (e, told, answered, late, h, gathers, number, history, abreast) = c.requires.runs in
    let (s, on, marked, is, runs, even, waits, made) =
    c.day.invariant.at e told answered late h gathers number history in
    let (left, rest) = c.goes_on.ensures.none c.day-test.false in
    no_ticket k.out k.number k.holds k.gave k.exact k.jobs k.answers e told answered c.day.run c.day.crew s runs
    (omega (arith, waits, rest))

pub returns-clause-ended : goal.returns-clause-ended
returns-clause-ended g c = sym c.more.ensures.exact ∙ (c.goes_on.ensures.none c.day-test.false).0

pub returns-clause-done : goal.returns-clause-done
returns-clause-done g c e told answered late h gathers number history =
    let (s, on, marked, is, runs, even, waits, made) =
    c.day.invariant.at e told answered late h gathers number history in
    let (left, rest) = c.goes_on.ensures.none c.day-test.false in
    let ended : has_more c.day.ahead ≡ false = sym c.more.ensures.exact ∙ left in (
      s,
      on,
      omega (arith, waits, rest),
      is,
      runs,
      (
        made.0,
        subst (AreTurns c.args.plan.now.width c.args.run.now.floor.limits.backlog c.args.rng.now made.0 s c.day.rng)
            ended made.1,
      ),
    )

pub returns-clause-turned : goal.returns-clause-turned
returns-clause-turned g c e told answered late h gathers number history =
    let (s, on, marked, is, runs, even, waits, made) =
    c.day.invariant.at e told answered late h gathers number history in
    let (left, rest) = c.goes_on.ensures.none c.day-test.false in
    let ended : has_more c.day.ahead ≡ false = sym c.more.ensures.exact ∙ left in (
      s,
      made.0,
      runs,
      subst (AreTurns c.args.plan.now.width c.args.run.now.floor.limits.backlog c.args.rng.now made.0 s c.day.rng) ended
          made.1,
    )

pub returns-in-Err-clause-read : goal.returns-in-Err-clause-read
returns-in-Err-clause-read g c lines bytes h = c.in-Err.ensures.read lines bytes (c.day.invariant.read lines bytes h)

pub returns-in-Err-clause-asked : goal.returns-in-Err-clause-asked
returns-in-Err-clause-asked g c =
    asked_on (is_keepers c.in-Err.fault) _ _ _ c.day.invariant.asked c.in-Err.ensures.asked
