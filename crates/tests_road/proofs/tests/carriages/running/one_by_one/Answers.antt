use Rattle.std.proofs.Common.{◌+◌, take, drop, sym, subst}
use Rattle.std.proofs.lemmas.List.{take_more}
use Rattle.ways_expressway.specs.Stands.{StandsFor}
use Rattle.ways_expressway.proofs.RunSteps.{around, from_new}
use Rattle.ways_expressway.proofs.CheckLaws.{checked}
use Rattle.tests_road.proofs.tests.carriages.running.one_by_one.Goals as goal

pub next_job-requires : goal.next_job-requires
next_job-requires c =
    let es = c.args.events.now in
    let i = c.loop-event.event-index in (
      take i es,
      from_new c.loop-event.carriage es (take i es) _ (drop (i + 1) es) (around es i _ c.loop-event-test.true)
          (checked es c.requires) c.loop-event.invariant,
    )

pub loop-event-preserved : goal.loop-event-preserved
loop-event-preserved c =
    let es = c.args.events.now in
    let i = c.loop-event.event-index in
    subst (StandsFor c.in_ok-next.next) (sym (take_more es i _ c.loop-event-test.true))
    (c.in_ok-next.ensures (take i es)
    (from_new c.loop-event.carriage es (take i es) _ (drop (i + 1) es) (around es i _ c.loop-event-test.true)
    (checked es c.requires) c.loop-event.invariant))
