use Rattle.std.proofs.Common.{refl, ◌∙◌, arith}
use Rattle.ways_expressway.specs.Events.{events_for}
use Rattle.ways_audit.proofs.JobLaws.{none_started}
use Rattle.ways_audit.proofs.starts.start_each.Goals as goal

pub loop-worker-init : goal.loop-worker-init
loop-worker-init g c =
    let k = g.C.Crew in
    record {
      runs = none_started k.out k.number k.holds k.gave k.jobs c.args.crew.now c.args.tariffs.now
          c.args.tickets.now.items c.args.tuples.now c.args.width c.requires.idle c.requires.none;
      len = c.requires.len;
      events = c.requires.events;
      which = refl;
      answers = refl;
    }

pub start_worker-requires-clause-events : goal.start_worker-requires-clause-events
start_worker-requires-clause-events g c =
    c.take_events-events.ensures.taken (events_for c.args.tuples.now c.loop-worker.worker c.args.width)
    (c.loop-worker.invariant.events c.loop-worker.worker (omega arith))

pub loop-worker-preserved : goal.loop-worker-preserved
loop-worker-preserved g c =
    let k = g.C.Crew in
    record {
      runs = c.in_ok-start_worker.ensures.started (k.jobs c.args.crew.now) c.loop-worker.invariant.runs;
      len = c.take_events-events.ensures.len ∙ c.loop-worker.invariant.len;
      events = λ w more. c.take_events-events.ensures.left w (events_for c.args.tuples.now w c.args.width)
          (omega (arith, more)) (c.loop-worker.invariant.events w (omega (arith, more)));
      which = c.start_worker.ensures.which ∙ c.loop-worker.invariant.which;
      answers = c.start_worker.ensures.answers ∙ c.loop-worker.invariant.answers;
    }
