-- Why a put failed.
use Rattle.std.specs.Prelude.{◌≡◌, ◌⊎◌, ◌<◌, ℕ, false}
use Rattle.sqlite_disk.specs.Disk.{MoreFaults}
use Rattle.sqlite_trees.specs.declared.error.StoreError.{StoreError}
use Rattle.sqlite_trees.specs.declared.error.StoreError.TheVariants.{OutOfMemory, Io, Corrupt, Full, Broken, Unstorable}
use Rattle.sqlite_trees.specs.declared.store.Store.{Ghosts}
use Rattle.sqlite_trees.specs.View.{HasCause}

-- no column of the trees that puts write has the type REAL
abbrev pub HasNoReals : (ℕ → ℕ) → Type 0
HasNoReals reals = (t : ℕ) → t < 6 → reals t ≡ 0

-- why a step of a put failed: the disk failed or refused, or a limit of the format was met; the transaction was broken
-- before; or a column has the type REAL. Want of memory may be told at any time
abbrev pub StepCause : {S : Type 0} → Ghosts S → S → S → StoreError → Type 0
StepCause g old new e =
    HasCause (g.view old) (MoreFaults (g.faults old) (g.faults new)) (¬ HasNoReals (g.view old).reals) e

-- why a put failed: the disk failed or refused, or a limit of the format was met; the store was shut before; or a
-- column has the type REAL. Want of memory may be told at any time
abbrev pub PutCause : {S : Type 0} → Ghosts S → S → S → StoreError → Type 0
PutCause g old new OutOfMemory = Unit {0}
PutCause g old new Io = MoreFaults (g.faults old) (g.faults new)
PutCause g old new Corrupt = MoreFaults (g.faults old) (g.faults new)
PutCause g old new Full = MoreFaults (g.faults old) (g.faults new)
PutCause g old new Broken = ((g.view old).is_open ≡ false) ⊎ MoreFaults (g.faults old) (g.faults new)
PutCause g old new Unstorable = ¬ HasNoReals (g.view old).committed_reals
