use Rattle.std.proofs.Common.{◌≡◌, ◌≤◌, ◌+◌, length, take}
use Rattle.std.specs.HashMap.{spare}
use Rattle.std.specs.FinMap.{from_entries}
use Rattle.serve_board.specs.Totals.{with_charges, whole_with}
use Rattle.serve_board.proofs.shown.add_charges.Given as goal

abbrev pub invariant-loop-charged : goal.invariant-loop-charged
invariant-loop-charged l =
    (from_entries l.sums.entries ≡ with_charges (from_entries l.fn.sums.entries) (take l.charged-index l.fn.charges))
    × (l.whole ≡ whole_with l.fn.whole (take l.charged-index l.fn.charges))
    × (length l.fn.charges ≤ spare l.sums + l.charged-index)
