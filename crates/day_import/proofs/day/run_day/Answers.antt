use Rattle.std.proofs.Common.{Bool, ◌≡◌, ◌≤◌, ◌∙◌, [], inr, refl, sym, ap, subst, arith}
use Rattle.std.specs.Prelude.{Some, None}
use Rattle.road_time.specs.Reads.{reads}
use Rattle.day_reading.specs.Days.{IsDigested, most_of_day}
use Rattle.day_reading.specs.Ahead.{IsAhead, IsGatheringAhead, HasReadAhead}
use Rattle.day_floor.specs.Answers.{history_of}
use Rattle.day_floor.specs.Floors.{Setting}
use Rattle.day_import.specs.AskedRounds.{AsksUntil, is_keepers}
use Rattle.day_import.specs.DayFaults.{of_reading}
use Rattle.day_import.specs.PlannedRounds.{HasPlannedJobs}
use Rattle.day_import.specs.Outcomes.{Task, task_of, HasImported, HasStopped}
use Rattle.day_import.specs.declared.fault.DayFault.TheVariants.{NoMemory}
use Rattle.day_import.proofs.AskedRoundLaws.{none_asked, none_reading}
use Rattle.day_import.proofs.RoundJobLaws.{begun_runs}
use Rattle.day_import.proofs.OutcomeLaws.{under, seen_run, seen_stopped, none_stopped, why_read}
use Rattle.day_import.proofs.day.run_day.Goals as goal

pub returns-in_default-clause-stopped : goal.returns-in_default-clause-stopped
returns-in_default-clause-stopped g c =
    none_stopped
    (record {
      width = c.args.plan.now.width;
      limits = c.args.limits.now;
      late = c.args.late;
      tariffs =
          c.args.tariffs.now;
      number = c.args.day;
      history = history_of (g.K.Keeper.told c.args.keeper.now);
    })
    g.C.Crew.exact (λ bytes. g.S.Source.left c.args.source.now ≡ Some bytes) (g.C.Crew.jobs c.args.crew.now)
    (g.O.Sink.written c.args.sink.now) (g.P.Publisher.posted c.args.publisher.now) NoMemory (inr refl)

pub returns-in_default-clause-bounded : goal.returns-in_default-clause-bounded
returns-in_default-clause-bounded g c bytes told = (0, omega arith, told)

pub returns-in-Err-clause-stopped : goal.returns-in-Err-clause-stopped
returns-in-Err-clause-stopped g c =
    let t : Task =
    record {
      width = c.args.plan.now.width;
      limits = c.args.limits.now;
      late = c.args.late;
      tariffs =
          c.args.tariffs.now;
      number = c.args.day;
      history = history_of (g.K.Keeper.told c.args.keeper.now);
    } in
    subst (λ fault. HasStopped t g.C.Crew.exact (λ bytes. g.S.Source.left c.args.source.now ≡ Some bytes)
    (g.C.Crew.jobs c.args.crew.now) (g.C.Crew.jobs c.args.crew.now) (g.O.Sink.written c.args.sink.now)
    (g.O.Sink.written c.args.sink.now)
    (g.P.Publisher.posted c.args.publisher.now) (g.P.Publisher.posted c.args.publisher.now) fault)
    (sym c.reading_stopped.ensures)
    (none_stopped t g.C.Crew.exact (λ bytes. g.S.Source.left c.args.source.now ≡ Some bytes)
    (g.C.Crew.jobs c.args.crew.now) (g.O.Sink.written c.args.sink.now) (g.P.Publisher.posted c.args.publisher.now)
    (of_reading c.in-Err.stop) (why_read c.in-Err.stop))

pub run_opened-requires-clause-runs : goal.run_opened-requires-clause-runs
run_opened-requires-clause-runs g c =
    let k = g.C.Crew in
    let limits = c.args.limits.now in
    let run = c.in-Ok.run' in
    let ahead = c.in-Ok-open.ahead in
    let history = history_of (g.K.Keeper.told c.args.keeper.now) in
    let e : Setting = record {
      tariffs = c.args.tariffs.now;
      number = c.args.day;
      history = history;
      digested = c.args.digested;
    } in
    let h = begun_runs k.out k.number k.holds k.gave k.exact k.jobs k.answers e run c.args.crew.now
    (c.in-Ok.ensures.stands c.args.day history) c.in-Ok.ensures.tickets c.requires.idle in
    let gathers : IsGatheringAhead ahead run.floor.limits c.args.late [] =
    subst (λ l. IsGatheringAhead ahead l c.args.late []) (sym c.in-Ok.ensures.limits)
    c.in-Ok-open.ensures.gathering in
    (e, c.args.late, h, gathers, refl, refl, c.requires.abreast)

pub returns-in-Ok-run_opened-clause-ran : goal.returns-in-Ok-run_opened-clause-ran
returns-in-Ok-run_opened-clause-ran g c =
    let k = g.C.Crew in
    let limits = c.args.limits.now in
    let run = c.in-Ok.run' in
    let ahead = c.in-Ok-open.ahead in
    let history = history_of (g.K.Keeper.told c.args.keeper.now) in
    let e : Setting = record {
      tariffs = c.args.tariffs.now;
      number = c.args.day;
      history = history;
      digested = c.args.digested;
    } in
    let h = begun_runs k.out k.number k.holds k.gave k.exact k.jobs k.answers e run c.args.crew.now
    (c.in-Ok.ensures.stands c.args.day history) c.in-Ok.ensures.tickets c.requires.idle in
    let gathers : IsGatheringAhead ahead run.floor.limits c.args.late [] =
    subst (λ l. IsGatheringAhead ahead l c.args.late []) (sym c.in-Ok.ensures.limits)
    c.in-Ok-open.ensures.gathering in
    let left = g.S.Source.left c.open.new.source in
    let last = c.run_opened.new in
    seen_run (task_of e c.args.plan.now.width limits c.args.late) k.exact
    (λ bytes. IsAhead ahead limits c.args.late left bytes [])
    (λ bytes. g.S.Source.left c.args.source.now ≡ Some bytes) (λ bytes told. c.in-Ok-open.ensures.ahead bytes told)
    (k.jobs c.args.crew.now) (k.jobs last.crew) (g.O.Sink.written c.args.sink.now) (g.O.Sink.written last.sink)
    (g.P.Publisher.posted c.args.publisher.now) (g.P.Publisher.posted last.publisher) (k.answers c.args.crew.now)
    (k.answers last.crew) c.in-Ok-run_opened.left
    (under (λ n m. HasImported (task_of e n m c.args.late) k.exact (λ bytes. IsAhead ahead m c.args.late left bytes [])
    (k.answers c.args.crew.now) (k.answers last.crew) (k.jobs c.args.crew.now) (k.jobs last.crew)
    (g.O.Sink.written c.args.sink.now) (g.O.Sink.written last.sink) (g.P.Publisher.posted c.args.publisher.now)
    (g.P.Publisher.posted last.publisher) c.in-Ok-run_opened.left)
    run.floor.inboxes.width c.args.plan.now.width run.floor.limits limits c.in-Ok.ensures.width c.in-Ok.ensures.limits
    (c.in-Ok-run_opened.ensures.ran e c.args.late h gathers refl refl))

pub returns-in-Err-run_opened-clause-stopped : goal.returns-in-Err-run_opened-clause-stopped
returns-in-Err-run_opened-clause-stopped g c =
    let k = g.C.Crew in
    let limits = c.args.limits.now in
    let run = c.in-Ok.run' in
    let ahead = c.in-Ok-open.ahead in
    let history = history_of (g.K.Keeper.told c.args.keeper.now) in
    let e : Setting = record {
      tariffs = c.args.tariffs.now;
      number = c.args.day;
      history = history;
      digested = c.args.digested;
    } in
    let h = begun_runs k.out k.number k.holds k.gave k.exact k.jobs k.answers e run c.args.crew.now
    (c.in-Ok.ensures.stands c.args.day history) c.in-Ok.ensures.tickets c.requires.idle in
    let gathers : IsGatheringAhead ahead run.floor.limits c.args.late [] =
    subst (λ l. IsGatheringAhead ahead l c.args.late []) (sym c.in-Ok.ensures.limits)
    c.in-Ok-open.ensures.gathering in
    let left = g.S.Source.left c.open.new.source in
    let last = c.run_opened.new in
    seen_stopped (task_of e c.args.plan.now.width limits c.args.late) k.exact
    (λ bytes. IsAhead ahead limits c.args.late left bytes [])
    (λ bytes. g.S.Source.left c.args.source.now ≡ Some bytes) (λ bytes told. c.in-Ok-open.ensures.ahead bytes told)
    (k.jobs c.args.crew.now) (k.jobs last.crew) (g.O.Sink.written c.args.sink.now) (g.O.Sink.written last.sink)
    (g.P.Publisher.posted c.args.publisher.now) (g.P.Publisher.posted last.publisher) c.in-Err-run_opened.fault
    (under (λ n m. HasStopped (task_of e n m c.args.late) k.exact (λ bytes. IsAhead ahead m c.args.late left bytes [])
    (k.jobs c.args.crew.now) (k.jobs last.crew) (g.O.Sink.written c.args.sink.now) (g.O.Sink.written last.sink)
    (g.P.Publisher.posted c.args.publisher.now) (g.P.Publisher.posted last.publisher) c.in-Err-run_opened.fault)
    run.floor.inboxes.width c.args.plan.now.width run.floor.limits limits c.in-Ok.ensures.width c.in-Ok.ensures.limits
    (c.in-Err-run_opened.ensures.stopped e c.args.late h gathers refl refl))

pub returns-in-Ok-run_opened-clause-bounded : goal.returns-in-Ok-run_opened-clause-bounded
returns-in-Ok-run_opened-clause-bounded g c bytes told =
    let run = c.in-Ok.run' in
    let ahead = c.in-Ok-open.ahead in
    let limits = c.args.limits.now in
    let left = g.S.Source.left c.open.new.source in
    let (count, few, is) =
    c.in-Ok-run_opened.ensures.bounded bytes
    (subst (λ l. HasReadAhead ahead l.lines left bytes) (sym c.in-Ok.ensures.limits)
    (c.in-Ok-open.ensures.read bytes told)) in
    (count, subst (λ l. count ≤ most_of_day l) c.in-Ok.ensures.limits few, is)

pub returns-in-Err-run_opened-clause-bounded : goal.returns-in-Err-run_opened-clause-bounded
returns-in-Err-run_opened-clause-bounded g c bytes told =
    let run = c.in-Ok.run' in
    let ahead = c.in-Ok-open.ahead in
    let limits = c.args.limits.now in
    let left = g.S.Source.left c.open.new.source in
    let (count, few, is) =
    c.in-Err-run_opened.ensures.bounded bytes
    (subst (λ l. HasReadAhead ahead l.lines left bytes) (sym c.in-Ok.ensures.limits)
    (c.in-Ok-open.ensures.read bytes told)) in
    (count, subst (λ l. count ≤ most_of_day l) c.in-Ok.ensures.limits few, is)

pub returns-in-Ok-run_opened-clause-rest : goal.returns-in-Ok-run_opened-clause-rest
returns-in-Ok-run_opened-clause-rest g c bytes told none =
    let k = g.C.Crew in
    let limits = c.args.limits.now in
    let run = c.in-Ok.run' in
    let ahead = c.in-Ok-open.ahead in
    let history = history_of (g.K.Keeper.told c.args.keeper.now) in
    let e : Setting = record {
      tariffs = c.args.tariffs.now;
      number = c.args.day;
      history = history;
      digested = c.args.digested;
    } in
    let h = begun_runs k.out k.number k.holds k.gave k.exact k.jobs k.answers e run c.args.crew.now
    (c.in-Ok.ensures.stands c.args.day history) c.in-Ok.ensures.tickets c.requires.idle in
    let gathers : IsGatheringAhead ahead run.floor.limits c.args.late [] =
    subst (λ l. IsGatheringAhead ahead l c.args.late []) (sym c.in-Ok.ensures.limits)
    c.in-Ok-open.ensures.gathering in
    let left = g.S.Source.left c.open.new.source in
    c.in-Ok-run_opened.ensures.rest e c.args.late h gathers refl refl bytes
    (subst (λ l. IsAhead ahead l c.args.late left bytes []) (sym c.in-Ok.ensures.limits)
    (c.in-Ok-open.ensures.ahead bytes told))
    (subst (λ l. HasReadAhead ahead l.lines left bytes) (sym c.in-Ok.ensures.limits)
    (c.in-Ok-open.ensures.read bytes told))
    (subst (λ l. (reads bytes l c.args.late).refused ≡ None) (sym c.in-Ok.ensures.limits) none)

pub returns-in-Ok-run_opened-clause-leaves : goal.returns-in-Ok-run_opened-clause-leaves
returns-in-Ok-run_opened-clause-leaves g c bytes told =
    let k = g.C.Crew in
    let limits = c.args.limits.now in
    let run = c.in-Ok.run' in
    let ahead = c.in-Ok-open.ahead in
    let history = history_of (g.K.Keeper.told c.args.keeper.now) in
    let e : Setting = record {
      tariffs = c.args.tariffs.now;
      number = c.args.day;
      history = history;
      digested = c.args.digested;
    } in
    let h = begun_runs k.out k.number k.holds k.gave k.exact k.jobs k.answers e run c.args.crew.now
    (c.in-Ok.ensures.stands c.args.day history) c.in-Ok.ensures.tickets c.requires.idle in
    let gathers : IsGatheringAhead ahead run.floor.limits c.args.late [] =
    subst (λ l. IsGatheringAhead ahead l c.args.late []) (sym c.in-Ok.ensures.limits)
    c.in-Ok-open.ensures.gathering in
    let left = g.S.Source.left c.open.new.source in
    c.in-Ok-run_opened.ensures.leaves e c.args.late h gathers refl refl bytes
    (subst (λ l. IsAhead ahead l c.args.late left bytes []) (sym c.in-Ok.ensures.limits)
    (c.in-Ok-open.ensures.ahead bytes told))
    (subst (λ l. HasReadAhead ahead l.lines left bytes) (sym c.in-Ok.ensures.limits)
    (c.in-Ok-open.ensures.read bytes told))

pub returns-in-Ok-run_opened-clause-digested : goal.returns-in-Ok-run_opened-clause-digested
returns-in-Ok-run_opened-clause-digested g c =
    subst (λ (asked : Bool). IsDigested asked c.in-Ok-run_opened.left.end) c.in-Ok-open.ensures.digested
    c.in-Ok-run_opened.ensures.digested

pub returns-in-Ok-run_opened-clause-notices_digested : goal.returns-in-Ok-run_opened-clause-notices_digested
returns-in-Ok-run_opened-clause-notices_digested g c =
    let k = g.C.Crew in
    let run = c.in-Ok.run' in
    let ahead = c.in-Ok-open.ahead in
    let history = history_of (g.K.Keeper.told c.args.keeper.now) in
    let e : Setting = record {
      tariffs = c.args.tariffs.now;
      number = c.args.day;
      history = history;
      digested = c.args.digested;
    } in
    let h = begun_runs k.out k.number k.holds k.gave k.exact k.jobs k.answers e run c.args.crew.now
    (c.in-Ok.ensures.stands c.args.day history) c.in-Ok.ensures.tickets c.requires.idle in
    let gathers : IsGatheringAhead ahead run.floor.limits c.args.late [] =
    subst (λ l. IsGatheringAhead ahead l c.args.late []) (sym c.in-Ok.ensures.limits)
    c.in-Ok-open.ensures.gathering in
    c.in-Ok-run_opened.ensures.notices_digested e c.args.late h gathers refl refl

pub returns-in-Ok-run_opened-clause-planned : goal.returns-in-Ok-run_opened-clause-planned
returns-in-Ok-run_opened-clause-planned g c bytes told =
    let k = g.C.Crew in
    let limits = c.args.limits.now in
    let run = c.in-Ok.run' in
    let ahead = c.in-Ok-open.ahead in
    let history = history_of (g.K.Keeper.told c.args.keeper.now) in
    let e : Setting = record {
      tariffs = c.args.tariffs.now;
      number = c.args.day;
      history = history;
      digested = c.args.digested;
    } in
    let h = begun_runs k.out k.number k.holds k.gave k.exact k.jobs k.answers e run c.args.crew.now
    (c.in-Ok.ensures.stands c.args.day history) c.in-Ok.ensures.tickets c.requires.idle in
    let gathers : IsGatheringAhead ahead run.floor.limits c.args.late [] =
    subst (λ l. IsGatheringAhead ahead l c.args.late []) (sym c.in-Ok.ensures.limits)
    c.in-Ok-open.ensures.gathering in
    let left = g.S.Source.left c.open.new.source in
    under (λ n m. HasPlannedJobs c.args.plan.now.turns n m.backlog (reads bytes m c.args.late).tuples
    (k.jobs c.args.crew.now) (k.jobs c.run_opened.new.crew) (k.answers c.args.crew.now)
    (k.answers c.run_opened.new.crew)) run.floor.inboxes.width c.args.plan.now.width run.floor.limits limits
    c.in-Ok.ensures.width c.in-Ok.ensures.limits
    (c.in-Ok-run_opened.ensures.planned e c.args.late h gathers refl refl bytes
    (subst (λ l. IsAhead ahead l c.args.late left bytes []) (sym c.in-Ok.ensures.limits)
    (c.in-Ok-open.ensures.ahead bytes told)))

pub returns-in_default-clause-asked : goal.returns-in_default-clause-asked
returns-in_default-clause-asked g c = none_asked (g.K.Keeper.plan c.args.keeper.now)

pub returns-in-Err-clause-asked : goal.returns-in-Err-clause-asked
returns-in-Err-clause-asked g c =
    let plan = g.K.Keeper.plan c.args.keeper.now in
    subst (λ b. AsksUntil b plan plan)
    (sym (ap is_keepers c.reading_stopped.ensures ∙ none_reading c.in-Err.stop)) (none_asked plan)
