use Rattle.std.proofs.Common.{◌≤◌, ◌+◌, length}
use Rattle.sqlite_trees.specs.View.{IsClean, IsQuiet, KeepsSchema, OnlyWrites}
use Rattle.keep_puts.specs.Clears.{OthersStay}
use Rattle.keep_puts.proofs.clearing.clear_table.Given as goal

-- only this tree changed so far
abbrev pub invariant-rows : goal.invariant-rows
invariant-rows g l =
    let old = g.S.Store.view l.fn.store in
    let now = g.S.Store.view l.store in
    (IsClean now → OnlyWrites old now)
    × (IsClean now → OthersStay l.table old.trees now.trees)
    × (IsClean now → length (now.trees l.table) + l._turn ≤ length (old.trees l.table))
    × KeepsSchema old now
    × IsQuiet g.S.Store.view g.S.Store.faults g.S.Store.recovers g.S.Store.is_shielded l.fn.store l.store
