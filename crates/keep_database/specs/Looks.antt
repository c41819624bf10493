-- What a query shows of what was committed.
use Rattle.std.specs.Prelude.{◌≡◌, ◌⊎◌, ◌↔◌, ℕ, pos, true, List, [], ◌∷◌, Option, Some, length, IsTrue}
use Rattle.sqlite_value.specs.declared.value.Value.TheVariants.{Int}
use Rattle.sqlite_value.specs.Order.{Row, column}
use Rattle.sqlite_resolve.specs.Compile.{first}
use Rattle.sqlite_trees.specs.declared.store.Store.{Ghosts}
use Rattle.sqlite_trees.specs.Tree.{Trees}
use Rattle.sqlite.specs.Effect.{Database}
use Rattle.sqlite.specs.declared.error.Error.{Error}
use Rattle.sqlite.specs.declared.error.Error.TheVariants.{SqliteFailure}
use Rattle.sqlite.specs.declared.error.ErrorCode.TheVariants.{OutOfMemory}
use Rattle.sqlite.specs.Held.{Held, state}
use Rattle.sqlite.specs.State.{Shown}
use Rattle.keep_office.specs.declared.kept.KeepFault.{KeepFault}
use Rattle.keep_office.specs.declared.kept.KeepFault.TheVariants.{Failed, NoMemory}
use Rattle.keep_office.specs.Office.{Office}
use Rattle.keep_tables.specs.Asks.{is_ask_text}
use Rattle.keep_tables.specs.Stands.{StandsForOffice}
use Rattle.keep_tables.specs.Steps.{IsTreesOf}
use Rattle.keep_tables.specs.Texts.{find_version, find_day, find_seal}
use Rattle.keep_writes.specs.Causes.{IsAsked, HasCause, IsTold}

-- a text is one of a keeper's queries, with as many values as that is given
abbrev pub IsQuery : List ℕ → Row → Type 0
IsQuery sql params = (is_ask_text (first sql) ≡ true) × IsAsked sql params

-- an answer has one row, whose first value is version 2
pub record IsSecond (rows : List Row) : Type 0 where
  pub row : Row
  pub one : rows ≡ row ∷ []
  pub two : column row 0 ≡ Int (pos 2)

-- rows are what a query shows of what was committed before it
pub record ShowsCommitted {S : Type 0} (g : Ghosts S) (sql : List ℕ) (params : Row) (old new : Held S)
    (rows : List Row) : Type 0 where
  pub before : Held S
  pub now : (state g before).now ≡ (state g old).committed
  pub is_open : IsTrue (state g new).is_open
  pub shown : Shown sql params (state g before) (state g new) rows

-- what is committed stands for the office that comes next, whatever fitting office a database stood for
abbrev pub CommitsFrom : (Office → Type 0) → (Office → Office) → Database → Trees → Type 0
CommitsFrom fits next before trees = (o : Office) → StandsForOffice before o → fits o → IsTreesOf (next o) trees

-- what was committed before a call has version 2
pub record ShowsSecond {S : Type 0} (g : Ghosts S) (old new : Held S) : Type 0 where
  pub rows : List Row
  pub shown : ShowsCommitted g find_version [] old new rows
  pub second : IsSecond rows

-- what was committed before a call has no version, or another
pub record ShowsOther {S : Type 0} (g : Ghosts S) (old new : Held S) : Type 0 where
  pub rows : List Row
  pub shown : ShowsCommitted g find_version [] old new rows
  pub other : ¬ IsSecond rows

-- what was committed before a call cannot be asked for its version, for the fault's own cause; or it has none or
-- another, and that is a failure
abbrev pub IsUnready : {S : Type 0} → Ghosts S → Held S → Held S → KeepFault → Type 0
IsUnready g old new fault = HasCause g old new fault ⊎ ((fault ≡ Failed) × ShowsOther g old new)

-- a put that is refused was not begun for want of version 2, and what was told stays; or it tells the error with which
-- the database refused a step of it, and its fault is want of memory exactly where that error is
abbrev pub TellsRefusal : {S : Type 0} → Ghosts S → List (List ℕ × Row) → Held S → Held S → KeepFault →
    Option Error → Option Error → Type 0
TellsRefusal g writes old new fault before told =
    ((told ≡ before) × IsUnready g old new fault)
    ⊎ (IsTold g writes old new told × ((fault ≡ NoMemory) ↔ (told ≡ Some (SqliteFailure OutOfMemory))))

-- version 2 was shown of what was committed before a call
pub record HasSecond {S : Type 0} (g : Ghosts S) (old : Held S) : Type 0 where
  pub now : Held S
  pub shows : ShowsSecond g old now

-- a query shows one row of what was committed before a call
pub record ShowsOne {S : Type 0} (g : Ghosts S) (sql : List ℕ) (params : Row) (old : Held S) : Type 0 where
  pub now : Held S
  pub rows : List Row
  pub was_open : IsTrue (state g old).is_open
  pub shown : ShowsCommitted g sql params old now rows
  pub one : length rows ≡ 1

-- a day was kept before a call, and its seal
pub record IsSealed {S : Type 0} (g : Ghosts S) (day : ℕ) (old : Held S) : Type 0 where
  pub record_shown : ShowsOne g find_day (Int (pos day) ∷ []) old
  pub seal_shown : ShowsOne g find_seal (Int (pos day) ∷ []) old
