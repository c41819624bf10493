-- What a call does to what is kept, in words of the office that a database stands for.
use Rattle.std.specs.Prelude.{◌≡◌, ℕ, Bool, false, List, Result, IfOk, IfErr, OnOk, OnErr, IsTrue}
use Rattle.sqlite_value.specs.Order.{Row}
use Rattle.sqlite_trees.specs.Tree.{Trees}
use Rattle.sqlite_trees.specs.declared.store.Store.{Ghosts}
use Rattle.sqlite.specs.Effect.{Database}
use Rattle.sqlite.specs.Held.{Held, state}
use Rattle.sqlite.specs.State.{State, HasCleanDisk, KeepsCommit, Survives}
use Rattle.keep_office.specs.declared.kept.KeepFault.{KeepFault}
use Rattle.keep_office.specs.declared.kept.KeepFault.TheVariants.{Failed, NoMemory}
use Rattle.keep_office.specs.Office.{Office}
use Rattle.keep_tables.specs.Stands.{StandsForOffice}
use Rattle.keep_writes.specs.Causes.{WasRefusedIn, HasCauseOf}
use Rattle.keep_writes.specs.Runs.{CommitsRun, LeavesRun}
use Rattle.keep_database.specs.Gives.{WantsMemory}
use Rattle.keep_database.specs.Looks.{CommitsFrom, HasSecond, TellsRefusal}
use Rattle.keep_database.specs.declared.proved.ProvedKeeper.{ProvedKeeper}

-- a call that reads commits nothing, and one that writes the office that comes next
abbrev pub CommitsIf : Bool → (Office → Type 0) → (Office → Office) → Database → Trees → Type 0
CommitsIf writes asks next before trees = IsTrue writes × CommitsFrom asks next before trees

-- a call that reads failed since a query was refused; want of memory is the database's, or the office has what the call
-- was to take up
abbrev pub FailsFor : {S : Type 0} → Ghosts S → (Office → Type 0) → Held S → Held S → Office → KeepFault → Type 0
FailsFor g takes old new o Failed = WasRefusedIn g old new
FailsFor g takes old new o NoMemory = WantsMemory g old new (takes o)

-- so it did by a keeper, which tells the error that it told before
abbrev pub ReadFails : {S : Type 0} → Ghosts S → (Office → Type 0) → ProvedKeeper S → ProvedKeeper S → Office →
    KeepFault → Type 0
ReadFails g takes old new o fault = FailsFor g takes old.conn new.conn o fault × (new.refused ≡ old.refused)

-- a put by a keeper failed for a cause of its own, and the keeper tells the error with which the database refused it,
-- want of memory where that is the fault; or what it told before where the put was not begun, for the fault's own cause
abbrev pub PutFails : {S : Type 0} → Ghosts S → List (List ℕ × Row) → ProvedKeeper S → ProvedKeeper S →
    KeepFault → Type 0
PutFails g writes old new fault =
    HasCauseOf g writes old.conn new.conn fault × TellsRefusal g writes old.conn new.conn fault old.refused new.refused

-- a put by a keeper, whatever its database is: done, it had found version 2, and what is committed is what all its
-- texts, in their order, made of what was; refused, it leaves what was committed; a crash leaves that, or what all of
-- them made of it where version 2 was found; what is told of the tables stays, and of a refusal where the put was done
pub record PutsRun {S : Type 0} (g : Ghosts S) (writes : List (List ℕ × Row)) (old new : ProvedKeeper S)
    (result : Result (Unit {0}) KeepFault) : Type 0 where
  pub wrote : HasCleanDisk (state g new.conn) → OnOk result (CommitsRun g writes old.conn new.conn)
  pub version : HasCleanDisk (state g new.conn) → OnOk result (HasSecond g old.conn)
  pub refused : HasCleanDisk (state g new.conn) → OnErr result (KeepsCommit (state g old.conn) (state g new.conn))
  pub leaves : Survives (state g old.conn) (state g new.conn) (LeavesRun g writes old.conn)
  pub spares : Survives (state g old.conn) (state g new.conn) (λ _. HasSecond g old.conn)
  pub quiet : OnOk result (new.refused ≡ old.refused)
  pub made : new.unmade ≡ old.unmade

-- a call that asks something of the office answers what the office gives, and leaves the next one; where it is refused,
-- it leaves the office, and had a cause; what it answered leaves the store open
pub record Does {A : Type 0} (cause : Office → KeepFault → Type 0) (writes : Bool) (asks : Office → Type 0)
    (gives : Office → A → Type 0) (next : Office → Office) (old new : State) (result : Result A KeepFault) :
    Type 0 where
  pub kept : writes ≡ false → HasCleanDisk new → KeepsCommit old new
  pub answers : HasCleanDisk new → (o : Office) → StandsForOffice old.committed o → asks o → IfOk result (gives o)
  pub opened : HasCleanDisk new → OnOk result (IsTrue new.is_open)
  pub leaves : HasCleanDisk new → IsTrue new.is_open → (o : Office) → StandsForOffice old.committed o → asks o →
      OnOk result (StandsForOffice new.committed (next o)) × OnErr result (StandsForOffice new.committed o)
  pub because : HasCleanDisk new → (o : Office) → StandsForOffice old.committed o → IfErr result (cause o)
  pub crash : Survives old new (CommitsIf writes asks next old.committed)
