use Rattle.std.proofs.Common.{rules}
use Rattle.ways_crews.proofs.OtherSteps.{split_allowed}
use Rattle.ways_crews.proofs.hiring.hire.Goals as goal

pub split_seat-theirs-requires : goal.split_seat-theirs-requires
split_seat-theirs-requires c = (search rules, search rules, split_allowed _ _)
