use Rattle.std.proofs.Common.{◌≡◌, ℕ, nat_eq, ◌++◌, reverse, length, List}
use Rattle.std.specs.HashMap.{get}
use Rattle.road_time.specs.Tuples.{reports}
use Rattle.road_rules.specs.declared.halts.Mark.{Mark}
use Rattle.road_rules.specs.Halts.{next_time, halts_after, halts_of}
use Rattle.road_rules.proofs.halts.halts.Given as goal

abbrev pub invariant-loop-mark : goal.invariant-loop-mark
invariant-loop-mark l = (later : List Mark) × ((v : ℕ) → get nat_eq l.nexts v ≡ next_time later v)
    × (l.halts.items ++ halts_after later (reverse l.rest) ≡ halts_of (reports l.tuples))

abbrev pub decreases-loop-mark : goal.decreases-loop-mark
decreases-loop-mark l = length l.rest
