use Rattle.ways_crews.specs.Calls.{KeepsSeat}
use Rattle.ways_crews.proofs.waiting.await_done.Given as goal

abbrev pub invariant-loop : goal.invariant-loop
invariant-loop g l = KeepsSeat l.initial.seat l.seat
