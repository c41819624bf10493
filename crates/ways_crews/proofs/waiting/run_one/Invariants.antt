use Rattle.ways_crews.specs.Calls.{KeepsSeat}
use Rattle.ways_crews.proofs.waiting.run_one.Given as goal

abbrev pub invariant-loop-cell : goal.invariant-loop-cell
invariant-loop-cell g l = KeepsSeat l.initial.seat l.seat
