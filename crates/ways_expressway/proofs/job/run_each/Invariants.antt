use Rattle.std.proofs.Common.{take}
use Rattle.ways_expressway.proofs.RunSteps.{AreRun}
use Rattle.ways_expressway.proofs.job.run_each.Given as goal

abbrev pub invariant-loop-event : goal.invariant-loop-event
invariant-loop-event l = AreRun l.fn.carriage l.carriage l.found.items l.events (take l.event-index l.events)
