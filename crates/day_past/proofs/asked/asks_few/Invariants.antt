use Rattle.std.proofs.Common.{◌≡◌, ◌+◌, length}
use Rattle.day_past.specs.Asks.{count_asks}
use Rattle.day_past.proofs.asked.asks_few.Given as goal

abbrev pub invariant-loop-tuple : goal.invariant-loop-tuple
invariant-loop-tuple l = count_asks l.tuples + l.more ≡ count_asks l.left + 4096

abbrev pub decreases-loop-tuple : goal.decreases-loop-tuple
decreases-loop-tuple l = length l.left
