use Rattle.ways_crews.specs.Calls.{KeepsSeat}
use Rattle.ways_crews.proofs.waiting.help_at.Given as goal

abbrev pub invariant-loop : goal.invariant-loop
invariant-loop g l = KeepsSeat l.initial.seat l.seat
