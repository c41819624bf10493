use Rattle.std.proofs.Common.{◌≡◌, ◌++◌, take, drop}
use Rattle.ways_crews.specs.Marks.{marked}
use Rattle.ways_crews.proofs.mark_crew.set_tolls.Given as goal

abbrev pub invariant-loop-finding : goal.invariant-loop-finding
invariant-loop-finding l = l.findings ≡ marked l.toll (take l.finding-index l.initial.findings)
    ++ drop l.finding-index l.initial.findings
