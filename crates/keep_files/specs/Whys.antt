-- Which cause is said of a call that failed, by what it was made of.
use Rattle.std.specs.Prelude.{◌≡◌, ◌≢◌, ◌⊎◌, Option, Some, None}
use Rattle.sqlite_trees.specs.declared.store.Store.{Ghosts}
use Rattle.sqlite.specs.declared.error.Error.{Error}
use Rattle.sqlite.specs.declared.error.Error.TheVariants.{SqliteFailure}
use Rattle.sqlite.specs.declared.error.ErrorCode.TheVariants.{OutOfMemory}
use Rattle.sqlite.specs.Held.{Held, state}
use Rattle.sqlite.specs.State.{HasCleanDisk}
use Rattle.keep_office.specs.declared.kept.KeepFault.{KeepFault}
use Rattle.keep_trees.specs.declared.page_trees.PageTrees.{PageTrees}
use Rattle.keep_writes.specs.Causes.{HasCause}
use Rattle.keep_database.specs.Looks.{ShowsSecond, ShowsOther}
use Rattle.keep_database.specs.declared.proved.ProvedKeeper.{ProvedKeeper}
use Rattle.keep_files.specs.declared.cause.Cause.{Cause}
use Rattle.keep_files.specs.declared.cause.Cause.TheVariants.{OtherVersion, Odd, Unreadable}
use Rattle.keep_files.specs.declared.kept.Kept.{Kept}
use Rattle.keep_files.specs.declared.kept.Kept.TheVariants.{Trees, Whole}
use Rattle.keep_files.specs.Causes.{IsCauseOf}

-- what a look at the version says has this cause: another than 2, or 2, or it was refused
abbrev pub IsOddFor : {S : Type 0} → Ghosts S → Cause → Held S → Held S → Type 0
IsOddFor g OtherVersion old new = ShowsOther g old new
IsOddFor g Odd old new = ShowsSecond g old new
IsOddFor g Unreadable old new = (fault : KeepFault) × HasCause g old new fault
IsOddFor g other old new = ⊥

-- a look at the version of a connection says so
pub record IsOddAs {S : Type 0} (g : Ghosts S) (cause : Cause) (conn : Held S) : Type 0 where
  pub last : Held S
  pub odd : HasCleanDisk (state g last) → IsOddFor g cause conn last

-- no error is told but want of memory
abbrev pub TellsNone : Option Error → Type 0
TellsNone refused = (refused ≡ None) ⊎ (refused ≡ Some (SqliteFailure OutOfMemory))

-- the cause of a failure of a keeper on a whole file: that of the error that it tells, or what a look at the version
-- says
pub record IsWhy {S : Type 0} (g : Ghosts S) (keeper : ProvedKeeper S) (cause : Cause) : Type 0 where
  pub told : (e : Error) → keeper.refused ≡ Some e → e ≢ SqliteFailure OutOfMemory → IsCauseOf cause e
  pub odd : TellsNone keeper.refused → IsOddAs g cause keeper.conn

-- the same of what is held: of trees it is always that they could not be read
abbrev pub IsWhyOf : {P S : Type 0} → Ghosts S → Kept (PageTrees P) (ProvedKeeper S) → Cause → Type 0
IsWhyOf g (Trees trees) cause = cause ≡ Unreadable
IsWhyOf g (Whole keeper) cause = IsWhy g keeper cause
