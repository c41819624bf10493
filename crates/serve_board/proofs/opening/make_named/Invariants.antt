use Rattle.std.proofs.Common.{◌≡◌, replicate}
use Rattle.left_right.specs.Sides.{view}
use Rattle.serve_board.specs.Passes.{pass_of}
use Rattle.serve_board.proofs.opening.make_named.Given as goal

abbrev pub invariant-loop : goal.invariant-loop
invariant-loop g l =
    (l.items.items ≡ replicate l.counter (pass_of l.fn.front))
    × (l.writer.desk.shown ≡ l.fn.writer.desk.shown)
    × (l.writer.log ≡ l.fn.writer.log)
    × (l.writer.behind ≡ l.fn.writer.behind)
    × (view l.writer.desk.place ≡ view l.fn.writer.desk.place)
