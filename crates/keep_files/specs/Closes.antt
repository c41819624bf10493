-- What the closing of a file does.
use Rattle.std.specs.Prelude.{◌≡◌, ◌⊎◌, ◌↔◌, Bool, nat_lt, IsTrue, IsSome, IsSomeAnd}
use Rattle.std.specs.Prelude.{Option, Some, None, Result, Ok, Err}
use Rattle.sqlite_disk.specs.declared.Disk.{Ghosts}
use Rattle.sqlite_disk.specs.declared.Files.{Files}
use Rattle.sqlite_wal.specs.Reads.{AreClean, tally_of_files}
use Rattle.sqlite_pages.specs.Outcome.{IsExcused}
use Rattle.sqlite_pages.specs.declared.error.Error.{Error as PageError}
use Rattle.sqlite_pool.specs.declared.pool.Pool.{Pool}
use Rattle.sqlite_pool.specs.Pool.{state, files, usable, ending, log_frames, HasSpilled}
use Rattle.sqlite_pool.specs.Stored.{Keeps}
use Rattle.sqlite_store.specs.declared.store.FileStore.{FileStore}
use Rattle.sqlite_store.specs.FileStore.{view}
use Rattle.sqlite_trees.specs.View.{IsClean}
use Rattle.sqlite.specs.declared.error.Error.{Error}
use Rattle.sqlite.specs.Closing.{IsCopied}
use Rattle.sqlite.specs.Files.{IsClosed, FailsToClose}
use Rattle.sqlite.specs.Held.{Held}
use Rattle.keep_office.specs.declared.kept.KeepFault.{KeepFault}
use Rattle.keep_office.specs.declared.kept.KeepFault.TheVariants.{NoMemory}
use Rattle.keep_trees.specs.declared.page_trees.PageTrees.{PageTrees}
use Rattle.keep_database.specs.declared.proved.ProvedKeeper.{ProvedKeeper}
use Rattle.keep_files.specs.declared.cause.Cause.{Cause}
use Rattle.keep_files.specs.declared.cause.Cause.TheVariants.{Memory, Unreadable}
use Rattle.keep_files.specs.declared.kept.Kept.{Kept}
use Rattle.keep_files.specs.declared.kept.Kept.TheVariants.{Trees, Whole}
use Rattle.keep_files.specs.Causes.{IsCauseOf, close_cause}

module _ {D : Type 0} {g : Ghosts D} where
  -- what the log of some pages had was copied into their file: they show the same, and the log has no frame; a crash
  -- leaves nothing else than one before it
  pub record IsEmptied (pool : Pool D g) : Type 0 where
    pub last : Pool D g
    pub empty : ¬ HasSpilled pool → log_frames last ≡ 0
    pub same : IsTrue (state last).is_open → usable last ≡ usable pool
    pub kept : Keeps (state pool) (state last)

  -- between some pages and later ones a write of their files found no room: more are counted that did
  abbrev pub found_no_room : Pool D g → Pool D g → Bool
  found_no_room old new = nat_lt (tally_of_files g (files old)).refused (tally_of_files g (files new)).refused

  -- it was not copied, for an error of the pages that has this cause, by whether a write found no room; a crash leaves
  -- nothing else
  pub record StaysFull (pool : Pool D g) (cause : Cause) : Type 0 where
    pub last : Pool D g
    pub error : PageError
    pub excused : IsTrue (state last).is_clean → IsExcused (state pool).faults (ending last) error
    pub kept : Keeps (state pool) (state last)
    pub names : cause ≡ close_cause error (found_no_room pool last)

  -- the files of a connection were closed, and that of the database alone has what it had committed
  pub record IsShut (conn : Held (FileStore D g)) : Type 0 where
    pub files : Files D
    pub copied : AreClean g files.log files.db → IsCopied conn files

  -- they were not, for an error of the database that has this cause
  pub record StaysOpen (conn : Held (FileStore D g)) (cause : Cause) : Type 0 where
    pub last : FileStore D g
    pub error : Error
    pub closed : IsClosed conn last
    pub fails : IsClean (view last) → FailsToClose conn last error
    pub names : IsCauseOf cause error

  -- what was held of a file was closed
  abbrev pub IsEnded : Kept (Pool D g) (Held (FileStore D g)) → Type 0
  IsEnded (Trees pool) = IsEmptied pool
  IsEnded (Whole conn) = IsShut conn

  -- it was not, for a cause
  abbrev pub IsNotEnded : Kept (Pool D g) (Held (FileStore D g)) → Cause → Type 0
  IsNotEnded (Trees pool) cause = StaysFull pool cause
  IsNotEnded (Whole conn) cause = StaysOpen conn cause

-- a put that was done holds something, or says at the end why its log was not copied
abbrev pub IsTellingWhy : {K : Type 0} → Result (Unit {0}) KeepFault → Option K → Option Cause → Type 0
IsTellingWhy (Ok u) (Some kept) unfolded = Unit {0}
IsTellingWhy (Ok u) None unfolded = IsSome unfolded
IsTellingWhy (Err fault) held unfolded = Unit {0}

-- why the log of a store's file was not copied: that was refused for a cause, or the file is not found to be ours, and
-- so unreadable; nothing is said where something is held
abbrev pub IsUnfolded : {K : Type 0} → Type 0 → (Cause → Type 0) → Option K → Option Cause → Type 0
IsUnfolded foreign refuses (Some kept) unfolded = unfolded ≡ None
IsUnfolded foreign refuses None unfolded =
    IsSomeAnd unfolded (λ cause. refuses cause ⊎ ((cause ≡ Unreadable) × foreign))

-- a file was closed: what is held was, or nothing is held, and no put lies in its log alone
abbrev pub IsAllEnded : {P S : Type 0} → (Kept P S → Type 0) → Option (Kept P S) → Option Cause → Type 0
IsAllEnded ended (Some kept) unfolded = ended kept
IsAllEnded ended None unfolded = unfolded ≡ None

-- it was not, for a cause: of what is held, or that for which the log was not copied behind a put
abbrev pub IsNotAllEnded : {P S : Type 0} → (Kept P S → Cause → Type 0) → Option (Kept P S) → Option Cause →
    Cause → Type 0
IsNotAllEnded fails (Some kept) unfolded cause = fails kept cause
IsNotAllEnded fails None unfolded cause = unfolded ≡ Some cause

-- it was not, with want of memory or a failure as the cause is
abbrev pub FailsToEnd : (Cause → Type 0) → KeepFault → Type 0
FailsToEnd fails fault = (cause : Cause) × fails cause × ((fault ≡ NoMemory) ↔ (cause ≡ Memory))

-- what is given up of what is held: pages, or a connection
abbrev pub given_up : {P S : Type 0} → Kept (PageTrees P) (ProvedKeeper S) → Kept P (Held S)
given_up (Trees trees) = Trees trees.pages
given_up (Whole kept) = Whole kept.conn
