-- What is opened for a call of a file, and why it was not.
use Rattle.std.specs.Prelude.{◌≡◌, ◌≢◌, ◌⊎◌, ◌↔◌, ◌++◌, codes, ℕ, List, IsTrue}
use Rattle.std.specs.Prelude.{Option, Some, None, Result, Ok, Err}
use Rattle.std.specs.declared.io.ErrorKind.{ErrorKind}
use Rattle.sqlite.specs.declared.error.Error.TheVariants.{SqliteFailure}
use Rattle.sqlite.specs.declared.error.ErrorCode.TheVariants.{OutOfMemory}
use Rattle.sqlite.specs.Held.{Held, state}
use Rattle.sqlite.specs.State.{HasCleanDisk, KeepsCommit, Survives}
use Rattle.sqlite_std_file.specs.declared.pair.OpenError.{OpenError}
use Rattle.sqlite_trees.specs.declared.store.Store.{Ghosts as StoreGhosts}
use Rattle.keep_office.specs.declared.kept.KeepFault.{KeepFault}
use Rattle.keep_office.specs.declared.kept.KeepFault.TheVariants.{Failed, NoMemory}
use Rattle.keep_office.specs.Office.{Office}
use Rattle.keep_tables.specs.Stands.{HasOffice, StandsForOffice}
use Rattle.keep_writes.specs.Growth.{CommitsSame, HasVersion, IsAtRest, IsOurs, LacksVersion}
use Rattle.keep_writes.specs.Objects.{MayBeMade}
use Rattle.keep_writes.specs.Unmade.{CommitsTables, IsUnmade, IsUnmadeBy, LeavesTables}
use Rattle.keep_trees.specs.declared.page_trees.PageTrees.{PageTrees}
use Rattle.keep_database.specs.declared.proved.ProvedKeeper.{ProvedKeeper}
use Rattle.keep_files.specs.declared.cause.Cause.{Cause}
use Rattle.keep_files.specs.declared.cause.Cause.TheVariants.{Unopened, NotOurs, Memory, Replaced, Emptied}
use Rattle.keep_files.specs.declared.kept.Kept.{Kept}
use Rattle.keep_files.specs.declared.kept.Kept.TheVariants.{Trees, Whole}
use Rattle.keep_files.specs.Causes.{kind_cause, opening_cause}

-- what is opened: the file at a path, that of some pages, or that of a store
pub data Opening (P S : Type 0) : Type 0 where
  FromPath : List ℕ → Opening P S
  FromPages : P → Opening P S
  FromStore : S → Opening P S

-- what is opened: trees, a store of them, or a connection to the whole
pub data Part (P S : Type 0) : Type 0 where
  AsTrees : PageTrees P → Part P S
  AsStore : S → Part P S
  AsWhole : Held S → Part P S

-- what an opening to read gives, trees or the whole
abbrev pub read_part : {P S : Type 0} → Kept (PageTrees P) (Held S) → Part P S
read_part (Trees trees) = AsTrees trees
read_part (Whole conn) = AsWhole conn

-- what an opening to put gives, a store or the whole
abbrev pub put_part : {P S : Type 0} → Kept S (Held S) → Part P S
put_part (Trees store) = AsStore store
put_part (Whole conn) = AsWhole conn

-- where what was opened is a whole file, that is so
abbrev pub IfWhole : {T W : Type 0} → Type 0 → Kept T W → Type 0
IfWhole so (Trees trees) = Unit {0}
IfWhole so (Whole whole) = so

-- a keeper was adopted on a connection that came as said: it stands for the office that this stood for, and a database
-- that has the table of the version, or is not to be made, is as it was; its tables are made only where it is ours, by
-- the whole making of what was committed, and nothing is under way then; or they are left for a cause that the error
-- tells, which is not want of memory; a crash leaves what was committed, or what the whole making made of that
pub record IsAdopted {S : Type 0} (g : StoreGhosts S) (comes : Held S → Type 0) (keeper : ProvedKeeper S) : Type 0 where
  pub conn : Held S
  pub from : comes conn
  pub roomy : keeper.unmade ≢ Some NoMemory
  pub why : HasCleanDisk (state g keeper.conn) → IsUnmadeBy g conn keeper.conn keeper.refused
  pub told : keeper.refused ≡ None → keeper.unmade ≡ None
  pub quiet : keeper.unmade ≡ None → keeper.refused ≡ None
  pub stands : HasCleanDisk (state g keeper.conn) → IsTrue (state g keeper.conn).is_open → (o : Office)
      → StandsForOffice (state g conn).committed o → StandsForOffice (state g keeper.conn).committed o
  pub made : HasCleanDisk (state g keeper.conn) → IsTrue (state g keeper.conn).is_open → keeper.unmade ≡ None
      → (o : Office) → StandsForOffice (state g conn).committed o → HasOffice (state g keeper.conn).committed o
  pub left : HasCleanDisk (state g keeper.conn) → ¬ MayBeMade (state g conn).committed →
      KeepsCommit (state g conn) (state g keeper.conn)
  pub there : HasCleanDisk (state g keeper.conn) → HasVersion (state g conn).committed →
      KeepsCommit (state g conn) (state g keeper.conn)
  pub ours : HasCleanDisk (state g keeper.conn) → keeper.unmade ≡ None → IsOurs (state g conn).committed
  pub wrote : HasCleanDisk (state g keeper.conn) → keeper.unmade ≡ None → LacksVersion (state g conn).committed →
      CommitsTables g conn keeper.conn
  pub rest : HasCleanDisk (state g keeper.conn) → keeper.unmade ≡ None → IsAtRest (state g keeper.conn)
  pub kept : HasCleanDisk (state g keeper.conn) → keeper.unmade ≢ None →
      KeepsCommit (state g conn) (state g keeper.conn)
  pub leaves : Survives (state g conn) (state g keeper.conn) (LeavesTables g conn)
  pub crash : Survives (state g conn) (state g keeper.conn) (CommitsSame (state g conn).committed)

-- a keeper was adopted on a connection that came as said, and in that there was no memory to make its tables: what was
-- committed stays, and a crash leaves that, or what the whole making made of it
pub record LacksTables {S : Type 0} (g : StoreGhosts S) (comes : Held S → Type 0) (cause : Cause) : Type 0 where
  pub memory : cause ≡ Memory
  pub conn : Held S
  pub from : comes conn
  pub keeper : ProvedKeeper S
  pub unmade : keeper.unmade ≡ Some NoMemory
  pub why : HasCleanDisk (state g keeper.conn) → IsUnmade g conn keeper.conn (SqliteFailure OutOfMemory)
  pub kept : HasCleanDisk (state g keeper.conn) → KeepsCommit (state g conn) (state g keeper.conn)
  pub leaves : Survives (state g conn) (state g keeper.conn) (LeavesTables g conn)
  pub crash : Survives (state g conn) (state g keeper.conn) (CommitsSame (state g conn).committed)

-- what is opened, other than a path, came as said
abbrev pub IsOpeningOf : {P S : Type 0} → (Part P S → Type 0) → Opening P S → Type 0
IsOpeningOf comes (FromPath path) = ⊥
IsOpeningOf {P} comes (FromPages pages) = (trees : PageTrees P) × (trees.pages ≡ pages) × comes (AsTrees trees)
IsOpeningOf comes (FromStore store) = comes (AsStore store)

module _ {P S : Type 0} (g : StoreGhosts S) (comes : Part P S → Type 0) where
  -- what was to be opened was not, for a cause; or a connection was, and lacks its tables; it came as said
  abbrev pub NotOpened : (Opening P S → Cause → Type 0) → Opening P S → Cause → Type 0
  NotOpened refuses (FromPath path) cause =
      refuses (FromPath path) cause ⊎ LacksTables g (λ conn. comes (AsWhole conn)) cause
  NotOpened refuses (FromPages pages) cause = IsOpeningOf comes (FromPages pages) × refuses (FromPages pages) cause
  NotOpened refuses (FromStore store) cause = IsOpeningOf comes (FromStore store) × refuses (FromStore store) cause

-- a cause is told by an answer that is an error: want of memory by its own, any other cause is said
abbrev pub IsToldBy : {A : Type 0} → Option Cause → Result A KeepFault → Cause → Type 0
IsToldBy said (Ok x) cause = ⊥
IsToldBy said (Err fault) cause = ((fault ≡ NoMemory) ↔ (cause ≡ Memory)) × (fault ≡ Failed → said ≡ Some cause)

-- a call was made of nothing, for a cause that is known and told
pub record WasUnopened {A : Type 0} (knows : Cause → Type 0) (said : Option Cause)
    (result : Result A KeepFault) : Type 0 where
  pub cause : Cause
  pub known : knows cause
  pub told : IsToldBy said result cause

module _ {P S : Type 0} (refuses : Opening P S → Cause → Type 0) (path : List ℕ) where
  -- why a call that reads was made of nothing: the file at the path was not opened
  abbrev pub IsUnread : Cause → Type 0
  IsUnread cause = refuses (FromPath path) cause

  -- the file at the path was opened, or it was not, for a cause
  abbrev pub Tries : (Opening P S → Part P S → Type 0) → Type 0
  Tries gives = ((part : Part P S) × gives (FromPath path) part) ⊎ ((cause : Cause) × IsUnread cause)

  -- why a call that puts was made of nothing: the same, or neither a store nor the whole file was opened
  abbrev pub IsUnput : Cause → Type 0
  IsUnput cause =
      IsUnread cause
      ⊎ (((pages : P) × refuses (FromPages pages) cause) ⊎ ((store : S) × refuses (FromStore store) cause))

  -- why nothing was begun anew: the same, or what was opened is not exactly ours
  abbrev pub IsNotAnew : (Opening P S → Type 0) → Cause → Type 0
  IsNotAnew foreign cause = IsUnput cause ⊎ ((cause ≡ NotOurs) × ((other : Opening P S) × foreign other))

-- a path names no file: it is that of a database in memory, or begins as an address
abbrev pub NamesNoFile : List ℕ → Type 0
NamesNoFile path = (path ≡ codes ":memory:") ⊎ ((rest : List ℕ) × (path ≡ codes "file:" ++ rest))

-- a cause that a look at a path may have: another file or none is there, there is no memory, or the system refuses it
abbrev pub IsOfLook : Cause → Type 0
IsOfLook cause = (cause ≡ Replaced) ⊎ ((cause ≡ Memory) ⊎ ((kind : ErrorKind) × (cause ≡ kind_cause kind)))

-- a cause for which the file at a path is refused: that of an error of an opening, or of a look at the path, or the
-- path names none; or its file is empty or missing beside a log, or of one byte that none of ours begins with
abbrev pub IsOfOpening : List ℕ → Cause → Type 0
IsOfOpening path cause =
    ((error : OpenError) × (cause ≡ opening_cause error)) ⊎ ((NamesNoFile path × (cause ≡ Unopened))
    ⊎ (IsOfLook cause ⊎ ((cause ≡ Emptied) ⊎ (cause ≡ NotOurs))))
