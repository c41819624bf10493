use Rattle.std.proofs.Common.{◌≡◌, ◌-◌, length}
use Rattle.tests_desk.proofs.tests.desk.first_wrong.Given as goal

abbrev pub invariant-loop-at : goal.invariant-loop-at
invariant-loop-at g l = l.reader.board ≡ l.desk.writer.board

abbrev pub decreases-loop-at : goal.decreases-loop-at
decreases-loop-at g l = length l.rows - l.at
