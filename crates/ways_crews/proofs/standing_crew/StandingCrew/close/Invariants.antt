use Rattle.std.specs.Prelude.{All}
use Rattle.ways_crews.specs.Boards.{board_id}
use Rattle.ways_crews.specs.Helpers.{IsHelperAt}
use Rattle.ways_crews.proofs.standing_crew.StandingCrew.close.Given as goal

abbrev pub invariant-loop-helper : goal.invariant-loop-helper
invariant-loop-helper g l = All (IsHelperAt (board_id l.crew.board)) l.helpers.items

abbrev pub decreases-loop-helper : goal.decreases-loop-helper
decreases-loop-helper g l = goal.left-loop-helper g l
