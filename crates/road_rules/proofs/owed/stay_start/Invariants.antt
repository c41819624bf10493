use Rattle.std.proofs.Common.{◌≡◌, length}
use Rattle.road_time.specs.Stays.{stay_start}
use Rattle.road_rules.proofs.owed.stay_start.Given as goal

abbrev pub invariant-loop-newest : goal.invariant-loop-newest
invariant-loop-newest l = stay_start l.rest ≡ stay_start l.fn.own

abbrev pub decreases-loop-newest : goal.decreases-loop-newest
decreases-loop-newest l = length l.rest
