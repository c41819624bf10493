use Rattle.std.proofs.Common.{◌≡◌, [], take, map, IsTrue}
use Rattle.sqlite.specs.Held.{state}
use Rattle.sqlite.specs.State.{HasCleanDisk, KeepsCommit, Survives, Shows}
use Rattle.keep_office.specs.Kept.{seal_of}
use Rattle.keep_office.specs.Office.{Office}
use Rattle.keep_tables.specs.Shown.{number_columns}
use Rattle.keep_tables.specs.Stands.{HoldsAs, contents_of}
use Rattle.keep_writes.specs.Growth.{IsUnsealed}
use Rattle.keep_writes.specs.Unmade.{SealsEach}
use Rattle.keep_writes.proofs.seals.seal_days.Given as goal

-- the days so far have their seals
abbrev pub invariant-days : goal.invariant-days
invariant-days g l =
    let old = state g.S.Store l.fn.tx.conn.now in
    let now = state g.S.Store l.tx.conn.now in
    (l.tx.conn.ghost_name ≡ l.fn.tx.conn.ghost_name) × Survives old now (λ _. ⊥)
    × (HasCleanDisk now → IsTrue old.in_transaction → IsTrue now.in_transaction)
    × (HasCleanDisk now → IsTrue old.is_open → IsTrue old.in_transaction →
    Shows old now now.now old.committed old.in_transaction)
    × (HasCleanDisk now → IsTrue old.in_transaction → (o : Office) → IsUnsealed old.now o → l.seal ≡ seal_of [] →
    l.days ≡ map number_columns o.days
    → HoldsAs [] now.now (record (contents_of o) { sealed = take l.row-index o.days }))
    × (HasCleanDisk now → IsTrue old.in_transaction → KeepsCommit old now)
    × (HasCleanDisk now → IsTrue old.in_transaction → SealsEach g.S.Store l.seal (take l.row-index l.days)
    l.fn.tx.conn.now l.tx.conn.now)
