use Rattle.std.proofs.Common.{take}
use Rattle.ways_expressway.specs.Stands.{StandsFor}
use Rattle.tests_road.proofs.tests.carriages.running.one_by_one.Given as goal

abbrev pub invariant-loop-event : goal.invariant-loop-event
invariant-loop-event l = StandsFor l.carriage (take l.event-index l.events)
