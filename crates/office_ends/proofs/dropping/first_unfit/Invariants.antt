use Rattle.std.proofs.Common.{◌≡◌, length}
use Rattle.office_ends.specs.Drops.{first_unfit}
use Rattle.office_ends.proofs.dropping.first_unfit.Given as goal

abbrev pub invariant-loop-row : goal.invariant-loop-row
invariant-loop-row l = first_unfit l.base l.left ≡ first_unfit l.base l.rows

abbrev pub decreases-loop-row : goal.decreases-loop-row
decreases-loop-row l = length l.left
