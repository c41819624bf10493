use Rattle.std.proofs.Common.{◌≡◌, length}
use Rattle.day_verify.specs.Partings.{parting}
use Rattle.day_verify.proofs.amounts.first_parting.Given as goal

abbrev pub invariant-loop-row : goal.invariant-loop-row
invariant-loop-row l = parting l.kept_left l.right_left ≡ parting l.kept l.right

abbrev pub decreases-loop-row : goal.decreases-loop-row
decreases-loop-row l = length l.kept_left
