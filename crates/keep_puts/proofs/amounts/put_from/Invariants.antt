use Rattle.std.proofs.Common.{◌≡◌, ◌+ℤ◌, pos, take}
use Rattle.std.specs.List.{AllByRecursion}
use Rattle.sqlite_trees.specs.View.{IsClean, IsQuiet, KeepsSchema, OnlyWrites}
use Rattle.keep_tables.specs.Stands.{FitsSpent}
use Rattle.keep_puts.specs.Steps.{AreBelow, AddsKept}
use Rattle.keep_puts.specs.Puts.{PutsFrom}
use Rattle.keep_puts.proofs.amounts.put_from.Given as goal

-- so many are put, under numbers below the next
abbrev pub invariant-rows : goal.invariant-rows
invariant-rows g l =
    let old = g.S.Store.view l.fn.store in
    let now = g.S.Store.view l.store in
    (IsClean now → OnlyWrites old now)
    × (IsClean now → AreBelow l.first (old.trees 1) →
    AddsKept old.trees now.trees (take l.row-index l.rows) × AreBelow l.number (now.trees 1))
    × AllByRecursion FitsSpent (take l.row-index l.rows)
    × (l.number ≡ l.first +ℤ pos l.row-index)
    × KeepsSchema old now
    × IsQuiet g.S.Store.view g.S.Store.faults g.S.Store.recovers g.S.Store.is_shielded l.fn.store l.store
    × (IsClean now → AreBelow l.first (old.trees 1) →
    PutsFrom l.first (take l.row-index l.rows) old.trees now.trees)
