-- What a call's answer says, where it has a value, finds no memory, or failed for a cause.

use Rattle.std.specs.Prelude.{◌≡◌, ◌⊎◌, ◌≤◌, Result, Ok, Err}
use Rattle.sqlite_trees.specs.declared.store.Store.{Ghosts}
use Rattle.sqlite.specs.Held.{Held}
use Rattle.keep_office.specs.declared.kept.KeepFault.{KeepFault}
use Rattle.keep_office.specs.declared.kept.KeepFault.TheVariants.{Failed, NoMemory}
use Rattle.keep_office.specs.declared.kept.PastRecord.{PastRecord}
use Rattle.keep_tables.specs.Stands.{FitsPast}
use Rattle.keep_writes.specs.Causes.{LackedMemory}

-- an answer gives this, finds no memory, or failed for a cause
abbrev pub GivesUnless : {T X : Type 0} → Type 0 → (T → X) → Result T KeepFault → X → Type 0
GivesUnless cause see (Ok x) y = see x ≡ y
GivesUnless cause see (Err NoMemory) y = Unit {0}
GivesUnless cause see (Err Failed) y = cause

-- an answer gives this or finds no memory
abbrev pub Gives : {T X : Type 0} → (T → X) → Result T KeepFault → X → Type 0
Gives see result y = GivesUnless ⊥ see result y

-- there was no memory: the database had none, or there was something to take up
abbrev pub WantsMemory : {S : Type 0} → Ghosts S → Held S → Held S → Type 0 → Type 0
WantsMemory g old new there = LackedMemory g old new ⊎ there

-- a history fits its fields, and its base is 70 or more
abbrev pub FitsBased : PastRecord → Type 0
FitsBased p = FitsPast p × (70 ≤ p.base)
