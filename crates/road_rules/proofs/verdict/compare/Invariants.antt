use Rattle.std.proofs.Common.{◌≡◌, take}
use Rattle.road_rules.proofs.verdict.compare.Given as goal

abbrev pub invariant-loop-i : goal.invariant-loop-i
invariant-loop-i l = take l.i l.wanted ≡ take l.i l.found
