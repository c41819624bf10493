use Rattle.std.proofs.Common.{◌≡◌, ◌<◌, [], ◌∷◌, ◌++◌, false, length, sym, subst, ◌∙◌, arith, rules}
use Rattle.ways_expressway.specs.Ready.{CanRun}
use Rattle.road_time.specs.Rates.{Tariffs}
use Rattle.ways_audit.specs.Jobs.{Running}
use Rattle.ways_audit.proofs.JobLaws.{can_run, next_filled, few_started, tickets_few}
use Rattle.ways_audit.proofs.starts.start_worker.Goals as goal

pub overflow_cast-len : goal.overflow_cast-len
overflow_cast-len g c =
    let k = g.C.Crew in
    let (told, h) = c.requires.runs in
    let few =
    tickets_few k.out k.number k.holds k.gave k.jobs told c.args.crew.now c.args.tariffs.now
    c.args.tickets.now.items c.args.tuples.now c.args.width c.args.worker h
    (omega (arith, c.requires.worker, c.requires.few)) in
    let long : c.len.result ≡ length c.args.tickets.now.items = search rules in
    omega (arith, few, long)

pub start_job-requires-clause-ready : goal.start_job-requires-clause-ready
start_job-requires-clause-ready g c = record {
  stands = c.in_ok-job.ensures.stands;
  runs = subst (CanRun []) (sym (c.in_ok-job.ensures.events ∙ c.requires.events))
      (can_run c.args.tuples.now c.requires.day c.args.worker c.args.width);
}

pub start_job-requires-clause-room : goal.start_job-requires-clause-room
start_job-requires-clause-room g c =
    let k = g.C.Crew in
    let (told, h) = c.requires.runs in (
      told,
      h.todo,
      subst (λ (t : Tariffs). Running k.out k.number k.holds k.gave k.jobs told c.args.crew.now t
          c.args.tickets.now.items [] h.todo false) (sym c.in_ok-job.ensures.tariffs) h.runs,
      few_started k.out k.number k.holds k.gave k.jobs told c.args.crew.now c.args.tariffs.now c.args.tickets.now.items
          c.args.tuples.now c.args.width c.args.worker h (omega (arith, c.requires.worker, c.requires.few)),
    )

pub returns-clause-started : goal.returns-clause-started
returns-clause-started g c = λ told h.
    let k = g.C.Crew in
    let job = c.in_ok-job.job in
    let some : 0 < length c.args.events.items = search rules in
    let numbered : job.number ≡ length c.args.tickets.now.items = search rules in
    let runs =
    c.in_ok-start_job.ensures.started told h.todo
    (subst (λ (t : Tariffs). Running k.out k.number k.holds k.gave k.jobs told c.args.crew.now t
    c.args.tickets.now.items [] h.todo false) (sym c.in_ok-job.ensures.tariffs) h.runs) in
    next_filled k.out k.number k.holds k.gave k.jobs told c.args.crew.now c.start_job.new.crew c.args.tariffs.now
    c.args.tickets.now.items c.start_job.new.tickets.items c.args.tuples.now c.args.width c.args.worker
    c.args.events.items job h (sym c.requires.events) some c.in_ok-job.ensures.worker numbered
    c.in_ok-job.ensures.events
    (subst (λ (t : Tariffs). Running k.out k.number k.holds k.gave k.jobs told c.start_job.new.crew t
    c.start_job.new.tickets.items [] (h.todo ++ job ∷ []) false) c.in_ok-job.ensures.tariffs runs)
