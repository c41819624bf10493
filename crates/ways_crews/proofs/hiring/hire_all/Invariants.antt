use Rattle.std.proofs.Common.{◌≡◌, length}
use Rattle.std.specs.Prelude.{All}
use Rattle.ways_crews.specs.Boards.{board_id}
use Rattle.ways_crews.specs.Calls.{KeepsSeat}
use Rattle.ways_crews.specs.Helpers.{IsHelperAt}
use Rattle.ways_crews.proofs.hiring.hire_all.Given as goal

abbrev pub invariant-loop : goal.invariant-loop
invariant-loop l = record {
  same : KeepsSeat l.initial.seat l.seat;
  count : length l.hired.items ≡ l.counter;
  helpers : All (IsHelperAt (board_id l.initial.board)) l.hired.items;
}
