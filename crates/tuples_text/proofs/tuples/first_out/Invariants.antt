use Rattle.std.proofs.Common.{◌≡◌, ◌+◌, map, drop}
use Rattle.road_time.specs.Form.{first_out}
use Rattle.tuples_text.specs.Uses.{use_of}
use Rattle.tuples_text.proofs.tuples.first_out.Given as goal

abbrev pub invariant-loop-i : goal.invariant-loop-i
invariant-loop-i l =
    first_out 2 (map use_of l.uses) (drop 1 l.numbers) ≡ first_out (l.i + 2) (drop l.i (map use_of l.uses))
    (drop l.i (drop 1 l.numbers))
