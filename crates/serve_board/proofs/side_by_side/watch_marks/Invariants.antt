use Rattle.std.proofs.Common.{◌≡◌}
use Rattle.serve_board.specs.Passes.{StartsWith}
use Rattle.serve_board.proofs.side_by_side.watch_marks.Given as goal

-- the reader is of its board, and forgot nothing
abbrev pub invariant-loop : goal.invariant-loop
invariant-loop l = (l.reader.board ≡ l.initial.reader.board) × StartsWith l.reader.seen l.initial.reader.seen
