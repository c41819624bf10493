use Rattle.std.proofs.Common.{◌≡◌, [], true}
use Rattle.serve_board.specs.Worked.{marks_to}
use Rattle.serve_board.proofs.side_by_side.publish_marks.Given as goal

-- while none was refused, each mark before this one was published, and nothing else
abbrev pub invariant-loop-mark : goal.invariant-loop-mark
invariant-loop-mark g l = (l.writer.board ≡ l.initial.writer.board)
    × (l.all ≡ true → l.writer.posted ≡ record { published = marks_to l.mark; queued = [] })
