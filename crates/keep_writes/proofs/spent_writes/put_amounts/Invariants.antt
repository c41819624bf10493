use Rattle.std.proofs.Common.{◌≡◌, map, take, IsTrue}
use Rattle.sqlite.specs.State.{HasCleanDisk, Survives, Shows, KeepsCommit}
use Rattle.sqlite.specs.Held.{state}
use Rattle.std.specs.List.{AllByRecursion}
use Rattle.keep_tables.specs.Stands.{FitsSpent}
use Rattle.keep_tables.specs.Layout.{all_tables}
use Rattle.keep_tables.specs.Steps.{AddsAmounts}
use Rattle.keep_writes.specs.Runs.{RanAll}
use Rattle.keep_writes.specs.Writes.{amount_text}
use Rattle.keep_writes.proofs.spent_writes.put_amounts.Given as goal

abbrev pub invariant-rows : goal.invariant-rows
invariant-rows g l =
    let old = state g.S.Store l.fn.tx.conn.now in
    let now = state g.S.Store l.tx.conn.now in
    (l.tx.conn.ghost_name ≡ l.fn.tx.conn.ghost_name) × Survives old now (λ _. ⊥)
    × (HasCleanDisk now → IsTrue old.in_transaction → IsTrue now.in_transaction)
    × (HasCleanDisk now → IsTrue old.is_open → IsTrue old.in_transaction →
    Shows old now now.now old.committed old.in_transaction)
    × (HasCleanDisk now → IsTrue old.in_transaction → old.now.schema ≡ all_tables →
    AddsAmounts old.now now.now (take l.row-index l.rows))
    × AllByRecursion FitsSpent (take l.row-index l.rows)
    × (HasCleanDisk now → IsTrue old.in_transaction → KeepsCommit old now)
    × (HasCleanDisk now → IsTrue old.in_transaction →
    RanAll g.S.Store (map amount_text (take l.row-index l.rows)) l.fn.tx.conn.now l.tx.conn.now)
