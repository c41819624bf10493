use Rattle.std.proofs.Common.{Bool, [], sym, subst}
use Rattle.day_reading.specs.Ahead.{IsAhead, IsGatheringAhead}
use Rattle.day_reading.specs.Days.{IsDigested}
use Rattle.road_time.specs.Day.{given}
use Rattle.day_reading.proofs.AheadLaws.{ahead_within}
use Rattle.day_floor.specs.Closes.{IsClosed}
use Rattle.day_import.specs.declared.day.WorkedDay.{WorkedDay}
use Rattle.road_time.specs.Reads.{reads}
use Rattle.day_import.specs.Days.{IsOn}
use Rattle.day_import.specs.PlannedRounds.{IsPlanned, HasPlannedJobs}
use Rattle.day_import.specs.Outcomes.{task_of, HasImported, HasStopped}
use Rattle.day_import.specs.declared.fault.DayFault.TheVariants.{NoMemory}
use Rattle.day_import.proofs.RoundJobLaws.{nothing_out}
use Rattle.day_import.proofs.ReaderLaws.{nothing_left}
use Rattle.day_import.proofs.OutcomeLaws.{whole_run, whole_planned, whole_stopped, cut_stopped, under}
use Rattle.day_import.proofs.day.run_opened.Goals as goal

pub run_plan-requires-clause-runs : goal.run_plan-requires-clause-runs
run_plan-requires-clause-runs g c =
    let k = g.C.Crew in
    let (e, late, h, gathers, number, history, abreast) = c.requires.runs in
    (e, k.jobs c.args.crew.now, k.answers c.args.crew.now, late, h, gathers, number, history, abreast)

pub close-requires : goal.close-requires
close-requires g c =
    let k = g.C.Crew in
    let (e, late, h, gathers, number, history, abreast) = c.requires.runs in
    let (s, on, all, is, runs, plan) =
    c.in-Ok.ensures.done e (k.jobs c.args.crew.now) (k.answers c.args.crew.now) late h gathers number history in
    (e, s, runs.stands, all)

pub stop-requires : goal.stop-requires
stop-requires g c =
    let k = g.C.Crew in
    let f = c.args.run.floor in
    let (e, late, h, gathers, number, history, abreast) = c.requires.runs in
    let cut = c.in-Err.ensures.halted e (k.jobs c.args.crew.now) (k.answers c.args.crew.now) late h gathers number
    history in
    (k.jobs c.args.crew.now, f.inboxes.width, f.limits, cut.fed, cut.stopped)

pub returns-in-Ok-clause-ran : goal.returns-in-Ok-clause-ran
returns-in-Ok-clause-ran g c e late h gathers number history =
    let k = g.C.Crew in
    let told = k.jobs c.args.crew.now in
    let answered = k.answers c.args.crew.now in
    let f = c.args.run.floor in
    let v = c.in-Ok.ensures in
    let last = c.run_plan.new in
    let was = g.S.Source.left c.args.source.now in
    let (s, on, all, is, runs, plan) = v.done e told answered late h gathers number history in
    let same_on =
    subst (λ m. IsOn m late e c.args.ahead last.ahead was (g.S.Source.left last.source)
    (g.O.Sink.written c.args.sink.now) (g.O.Sink.written last.sink) (g.P.Publisher.posted c.args.publisher.now)
    (g.P.Publisher.posted last.publisher) s) (sym v.limits) on in
    let same_gathers = subst (λ m. IsGatheringAhead c.args.ahead m late []) (sym v.limits) gathers in
    let r : WorkedDay = record { closed = c.in-Ok-close.closed; tuples = c.in-Ok.tuples; end = c.end-end.result } in
    under (λ n m. HasImported (task_of e n m late) k.exact (λ bytes. IsAhead c.args.ahead m late was bytes []) answered
    (k.answers last.crew) told (k.jobs last.crew) (g.O.Sink.written c.args.sink.now) (g.O.Sink.written last.sink)
    (g.P.Publisher.posted c.args.publisher.now) (g.P.Publisher.posted last.publisher) r) last.run.floor.inboxes.width
    f.inboxes.width last.run.floor.limits f.limits v.width v.limits
    (whole_run k.out k.number k.holds k.gave k.exact k.jobs k.answers e told answered last.run last.crew s runs f.limits
    late c.args.ahead last.ahead _ _ _ _ _ _ same_on all v.ended same_gathers v.none r is
    (subst (λ d. IsClosed r.closed d (given s.found) e.number e.history s.fed) (sym number)
    (c.in-Ok-close.ensures.closed e s runs.stands all))
    c.end-end.ensures.exact
    (c.end-end.ensures.short last.run.floor.limits late s.fed (same_on.given.gathers [] same_gathers)
    runs.stands.terms.lines))

pub returns-in_default-clause-stopped : goal.returns-in_default-clause-stopped
returns-in_default-clause-stopped g c e late h gathers number history =
    let k = g.C.Crew in
    let told = k.jobs c.args.crew.now in
    let answered = k.answers c.args.crew.now in
    let f = c.args.run.floor in
    let v = c.in-Ok.ensures in
    let last = c.run_plan.new in
    let was = g.S.Source.left c.args.source.now in
    let (s, on, all, is, runs, plan) = v.done e told answered late h gathers number history in
    let same_on =
    subst (λ m. IsOn m late e c.args.ahead last.ahead was (g.S.Source.left last.source)
    (g.O.Sink.written c.args.sink.now) (g.O.Sink.written last.sink) (g.P.Publisher.posted c.args.publisher.now)
    (g.P.Publisher.posted last.publisher) s) (sym v.limits) on in
    let same_gathers = subst (λ m. IsGatheringAhead c.args.ahead m late []) (sym v.limits) gathers in
    under (λ n m. HasStopped (task_of e n m late) k.exact (λ bytes. IsAhead c.args.ahead m late was bytes []) told
    (k.jobs last.crew) (g.O.Sink.written c.args.sink.now) (g.O.Sink.written last.sink)
    (g.P.Publisher.posted c.args.publisher.now) (g.P.Publisher.posted last.publisher) NoMemory)
    last.run.floor.inboxes.width f.inboxes.width last.run.floor.limits f.limits v.width v.limits
    (whole_stopped k.out k.number k.holds k.gave k.exact k.jobs k.answers e told answered last.run last.crew s runs
    f.limits late c.args.ahead last.ahead _ _ _ _ _ _ same_on all v.ended same_gathers)

pub returns-clause-stopped : goal.returns-clause-stopped
returns-clause-stopped g c e late h gathers number history =
    let k = g.C.Crew in
    let told = k.jobs c.args.crew.now in
    let f = c.args.run.floor in
    let last = c.run_plan.new in
    let cut = c.in-Err.ensures.halted e told (k.answers c.args.crew.now) late h gathers number history in
    cut_stopped k.out k.number k.holds k.gave k.exact k.jobs c.in-Err.fault e told f.inboxes.width f.limits late
    c.args.ahead _ _ _ _ _ last.run last.crew c.stop.new.crew cut
    (c.stop.ensures.jobs told f.inboxes.width f.limits cut.fed cut.stopped)

pub returns-in-Ok-clause-idle : goal.returns-in-Ok-clause-idle
returns-in-Ok-clause-idle g c =
    let k = g.C.Crew in
    let (e, late, h, gathers, number, history, abreast) = c.requires.runs in
    let (s, on, all, is, runs, plan) =
    c.in-Ok.ensures.done e (k.jobs c.args.crew.now) (k.answers c.args.crew.now) late h gathers number history in
    nothing_out k.out k.number k.holds k.gave k.exact k.jobs k.answers e (k.jobs c.args.crew.now)
    (k.answers c.args.crew.now) c.run_plan.new.run c.run_plan.new.crew s runs c.in-Ok.ensures.none

pub returns-in_default-clause-idle : goal.returns-in_default-clause-idle
returns-in_default-clause-idle g c =
    let k = g.C.Crew in
    let (e, late, h, gathers, number, history, abreast) = c.requires.runs in
    let (s, on, all, is, runs, plan) =
    c.in-Ok.ensures.done e (k.jobs c.args.crew.now) (k.answers c.args.crew.now) late h gathers number history in
    nothing_out k.out k.number k.holds k.gave k.exact k.jobs k.answers e (k.jobs c.args.crew.now)
    (k.answers c.args.crew.now) c.run_plan.new.run c.run_plan.new.crew s runs c.in-Ok.ensures.none

pub returns-in-Ok-clause-bounded : goal.returns-in-Ok-clause-bounded
returns-in-Ok-clause-bounded g c bytes had =
    ahead_within c.run_plan.new.ahead c.args.run.floor.limits (g.S.Source.left c.run_plan.new.source) bytes
    (c.in-Ok.ensures.read c.args.run.floor.limits.lines bytes had)

pub returns-in_default-clause-bounded : goal.returns-in_default-clause-bounded
returns-in_default-clause-bounded g c bytes had =
    ahead_within c.run_plan.new.ahead c.args.run.floor.limits (g.S.Source.left c.run_plan.new.source) bytes
    (c.in-Ok.ensures.read c.args.run.floor.limits.lines bytes had)

pub returns-clause-bounded : goal.returns-clause-bounded
returns-clause-bounded g c bytes had =
    ahead_within c.run_plan.new.ahead c.args.run.floor.limits (g.S.Source.left c.run_plan.new.source) bytes
    (c.in-Err.ensures.read c.args.run.floor.limits.lines bytes had)

pub returns-in-Ok-clause-rest : goal.returns-in-Ok-clause-rest
returns-in-Ok-clause-rest g c e late h gathers number history bytes is read none =
    let k = g.C.Crew in
    let f = c.args.run.floor in
    let v = c.in-Ok.ensures in
    let last = c.run_plan.new in
    let (s, on, all, count, runs, plan) =
    v.done e (k.jobs c.args.crew.now) (k.answers c.args.crew.now) late h gathers number history in
    nothing_left last.ahead f.limits late (g.S.Source.left last.source) bytes s.fed f.limits.lines v.ended none
    (on.given.reads bytes [] is) (v.read f.limits.lines bytes read)

pub returns-in-Ok-clause-leaves : goal.returns-in-Ok-clause-leaves
returns-in-Ok-clause-leaves g c e late h gathers number history bytes is read =
    let k = g.C.Crew in
    let f = c.args.run.floor in
    let v = c.in-Ok.ensures in
    let (s, on, all, count, runs, plan) =
    v.done e (k.jobs c.args.crew.now) (k.answers c.args.crew.now) late h gathers number history in
    c.end-end.ensures.left f.limits late (g.S.Source.left c.run_plan.new.source) bytes s.fed
    (on.given.reads bytes [] is) (v.read f.limits.lines bytes read)

pub returns-in-Ok-clause-digested : goal.returns-in-Ok-clause-digested
returns-in-Ok-clause-digested g c =
    let k = g.C.Crew in
    let (e, late, h, gathers, number, history, abreast) = c.requires.runs in
    let (s, on, all, count, runs, plan) =
    c.in-Ok.ensures.done e (k.jobs c.args.crew.now) (k.answers c.args.crew.now) late h gathers number history in
    subst (λ (asked : Bool). IsDigested asked c.end-end.result) on.given.digested c.end-end.ensures.digested

pub returns-in-Ok-clause-notices_digested : goal.returns-in-Ok-clause-notices_digested
returns-in-Ok-clause-notices_digested g c e late h gathers number history =
    let k = g.C.Crew in
    let (s, on, all, is, runs, plan) =
    c.in-Ok.ensures.done e (k.jobs c.args.crew.now) (k.answers c.args.crew.now) late h gathers number history in
    c.in-Ok-close.ensures.digested e s runs.stands

pub returns-in-Ok-clause-planned : goal.returns-in-Ok-clause-planned
returns-in-Ok-clause-planned g c e late h gathers number history bytes =
    let k = g.C.Crew in
    let told = k.jobs c.args.crew.now in
    let answered = k.answers c.args.crew.now in
    let f = c.args.run.floor in
    let v = c.in-Ok.ensures in
    let last = c.run_plan.new in
    let was = g.S.Source.left c.args.source.now in
    let (s, on, all, is, runs, plan) = v.done e told answered late h gathers number history in
    let same_on =
    subst (λ m. IsOn m late e c.args.ahead last.ahead was (g.S.Source.left last.source)
    (g.O.Sink.written c.args.sink.now) (g.O.Sink.written last.sink) (g.P.Publisher.posted c.args.publisher.now)
    (g.P.Publisher.posted last.publisher) s) (sym v.limits) on in
    let same_gathers = subst (λ m. IsGatheringAhead c.args.ahead m late []) (sym v.limits) gathers in
    under (λ n m. IsPlanned c.args.plan.now.turns n m.backlog s → IsAhead c.args.ahead m late was bytes [] →
    HasPlannedJobs c.args.plan.now.turns n m.backlog (reads bytes m late).tuples told (k.jobs last.crew) answered
    (k.answers last.crew))
    last.run.floor.inboxes.width f.inboxes.width last.run.floor.limits f.limits v.width v.limits
    (λ planned ahead. whole_planned k.out k.number k.holds k.gave k.exact k.jobs k.answers e told answered last.run
    last.crew s runs f.limits late c.args.ahead last.ahead _ _ _ _ _ _ same_on all v.ended same_gathers
    c.args.plan.now.turns v.none planned bytes ahead) plan
