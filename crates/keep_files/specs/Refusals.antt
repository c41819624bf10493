-- Why a store of files refuses what is opened.
use Rattle.std.specs.Prelude.{◌≡◌, ◌⊎◌, ◌&&◌, false, ℕ, List, Option, Some, None}
use Rattle.sqlite_disk.specs.declared.Disk.{Ghosts}
use Rattle.sqlite_disk.specs.declared.Files.{Files}
use Rattle.sqlite_pool.specs.declared.pool.Pool.{Pool}
use Rattle.sqlite_pool.specs.Pool as pool
use Rattle.sqlite_store.specs.declared.store.FileStore.{FileStore}
use Rattle.sqlite_store.specs.FileStore as store
use Rattle.sqlite.specs.Files.{IsCleanLeft, FailsToOpenFiles, LeavesFiles}
use Rattle.sqlite.specs.declared.error.Error.{Error}
use Rattle.sqlite.specs.declared.file.Leftover.{Leftover}
use Rattle.keep_files.specs.declared.cause.Cause.{Cause}
use Rattle.keep_files.specs.declared.cause.Cause.TheVariants.{DiskFailed}
use Rattle.keep_files.specs.declared.missed.Missed.{Missed}
use Rattle.keep_files.specs.declared.missed.Missed.TheVariants.{Foreign, Failed}
use Rattle.keep_files.specs.Causes.{IsCauseOf, IsOfChecking}
use Rattle.keep_files.specs.Files.{AreLeft}
use Rattle.keep_files.specs.Openings.{Opening, FromPath, FromPages, FromStore}

-- a database refused to open files with an error, which has that cause, and harmed nothing
pub record IsRefusedBy {D : Type 0} (g : Ghosts D) (files : Files D) (cause : Cause) : Type 0 where
  pub error : Error
  pub left : Leftover D g
  pub fails : IsCleanLeft left → FailsToOpenFiles files left error
  pub harmless : IsCleanLeft left → LeavesFiles files left
  pub names : IsCauseOf cause error

-- an earlier failure left files not to be used
abbrev pub AreSpent : {D : Type 0} (g : Ghosts D) → Files D → Cause → Type 0
AreSpent g files cause = ((g.is_usable files.log && g.is_usable files.db) ≡ false) × (cause ≡ DiskFailed)

-- what was looked for is another's
abbrev pub IfForeign : {T : Type 0} → (T → Type 0) → Missed T → Type 0
IfForeign so (Foreign back) = so back
IfForeign so (Failed cause) = Unit {0}

-- the look failed for a cause
abbrev pub IfFailed : {T : Type 0} → (Cause → Type 0) → Missed T → Type 0
IfFailed so (Foreign back) = Unit {0}
IfFailed so (Failed cause) = so cause

-- something is not had of what it was looked for in: that is another's, or it is refused for a cause
abbrev pub IsLost : Type 0 → (Cause → Type 0) → Option Cause → Type 0
IsLost foreign refuses None = foreign
IsLost foreign refuses (Some cause) = refuses cause

-- files were looked at for our trees, and are left
abbrev pub AreLooked : {D : Type 0} (g : Ghosts D) → Files D → Type 0
AreLooked {D} g files = (left : Files D) × AreLeft g files left

module _ {D : Type 0} (g : Ghosts D) where
  -- files were refused for a cause: they are not to be used, or a database refused to open them
  abbrev pub AreRefused : Files D → Cause → Type 0
  AreRefused files cause = AreSpent g files cause ⊎ IsRefusedBy g files cause

  -- the opening of a store of files failed for a cause, or what a look for our trees left of them was refused
  abbrev pub AreLeftRefused : Files D → Cause → Type 0
  AreLeftRefused files cause =
      IsOfChecking cause ⊎ ((left : Files D) × AreLeft g files left × AreRefused left cause)

  -- why files are not opened: no number is drawn, or they are refused
  abbrev pub RefusesFiles : (Cause → Type 0) → Files D → Cause → Type 0
  RefusesFiles draws files cause = draws cause ⊎ AreLeftRefused files cause

  -- why the file at a path is not opened: the disk gives none, no number is drawn, or the files that it gives are
  -- refused
  abbrev pub RefusesPath : (List ℕ → Files D → Type 0) → (List ℕ → Cause → Type 0) → (Cause → Type 0) → List ℕ →
      Cause → Type 0
  RefusesPath reaches gives draws path cause =
      gives path cause ⊎ (draws cause ⊎ ((files : Files D) × reaches path files × AreLeftRefused files cause))

  -- why a store of files refuses what is opened: of pages and of a store it is their files that are refused
  abbrev pub FileRefuses : (List ℕ → Files D → Type 0) → (List ℕ → Cause → Type 0) → (Cause → Type 0) →
      Opening (Pool D g) (FileStore D g) → Cause → Type 0
  FileRefuses reaches gives draws (FromPath path) cause = RefusesPath reaches gives draws path cause
  FileRefuses reaches gives draws (FromPages pages) cause =
      draws cause ⊎ ((files : Files D) × ((files.log, files.db) ≡ pool.files pages) × AreLeftRefused files cause)
  FileRefuses reaches gives draws (FromStore it) cause =
      draws cause ⊎ ((files : Files D) × ((files.log, files.db) ≡ store.files it) × AreLeftRefused files cause)

  -- what is known of what is opened and found not to be exactly ours: its files were looked at, and are left
  abbrev pub FileIsForeign : Opening (Pool D g) (FileStore D g) → Type 0
  FileIsForeign (FromPath path) = ⊥
  FileIsForeign (FromPages pages) = (files : Files D) × ((files.log, files.db) ≡ pool.files pages) × AreLooked g files
  FileIsForeign (FromStore it) = (files : Files D) × ((files.log, files.db) ≡ store.files it) × AreLooked g files
