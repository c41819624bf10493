-- Why a store of files refuses what is opened.
use Rattle.std.proofs.Common.{◌≡◌, ℕ, List, Option, Some, None, Result, Ok, Err, IfErr, IfOk, inl, inr}
use Rattle.sqlite_disk.specs.declared.Disk.{Ghosts}
use Rattle.sqlite_disk.specs.declared.Files.{Files}
use Rattle.sqlite_wal.proofs.LogLemmas.{SeenMayStay}
use Rattle.sqlite_pool.specs.declared.pool.Pool.{Pool}
use Rattle.sqlite_pool.specs.Pool as pool
use Rattle.sqlite_store.specs.declared.store.FileStore.{FileStore}
use Rattle.sqlite_store.specs.FileStore as store
use Rattle.keep_files.specs.declared.cause.Cause.{Cause}
use Rattle.sqlite.specs.Held.{Held}
use Rattle.keep_files.specs.declared.kept.Kept.{Kept}
use Rattle.keep_files.specs.declared.kept.Kept.TheVariants.{Trees, Whole}
use Rattle.keep_files.specs.Files.{OfFiles}
use Rattle.keep_files.specs.Openings.{FromPages, FromStore, IfWhole, put_part}
use Rattle.keep_files.specs.Refusals.{AreLooked, AreRefused, FileIsForeign, FileRefuses, IsLost, RefusesFiles}
use Rattle.keep_files.specs.Refusals.{RefusesPath}
use Rattle.keep_files.proofs.LeftLaws.{left_alone}

module _ {D X : Type 0} (g : Ghosts D) (reaches : List ℕ → Files D → Type 0) (gives : List ℕ → Cause → Type 0)
    (draws : Cause → Type 0) (files : Files D) where
  -- files at which nobody looked were refused
  pub refused_alone : SeenMayStay g → (r : Result X Cause) → IfErr r (AreRefused g files)
      → IfErr r (RefusesFiles g draws files)
  refused_alone stays (Ok x) h = tt
  refused_alone stays (Err cause) h = inr (inr (files, left_alone g stays files, h))

  -- so were files that the disk gave for a path
  pub refused_path : (path : List ℕ) → reaches path files → (r : Result X Cause)
      → IfErr r (RefusesFiles g draws files) → IfErr r (RefusesPath g reaches gives draws path)
  refused_path path given (Ok x) h = tt
  refused_path path given (Err cause) (inl drawn) = inr (inl drawn)
  refused_path path given (Err cause) (inr h) = inr (inr (files, given, h))

  -- or those of pages
  pub refused_closed : (it : Pool D g) → (files.log, files.db) ≡ pool.files it → (r : Result X Cause)
      → IfErr r (RefusesFiles g draws files) → IfErr r (FileRefuses g reaches gives draws (FromPages it))
  refused_closed it closed (Ok x) h = tt
  refused_closed it closed (Err cause) (inl drawn) = inl drawn
  refused_closed it closed (Err cause) (inr h) = inr (files, closed, h)

  -- or those of a store
  pub refused_stored : (it : FileStore D g) → (files.log, files.db) ≡ store.files it → (r : Result X Cause)
      → IfErr r (RefusesFiles g draws files) → IfErr r (FileRefuses g reaches gives draws (FromStore it))
  refused_stored it closed (Ok x) h = tt
  refused_stored it closed (Err cause) (inl drawn) = inl drawn
  refused_stored it closed (Err cause) (inr h) = inr (files, closed, h)

  -- what was lost of the files of a store was lost of the store
  pub lost_stored : (it : FileStore D g) → (files.log, files.db) ≡ store.files it → (r : Result X (Option Cause))
      → IfErr r (IsLost (AreLooked g files) (RefusesFiles g draws files))
      → IfErr r (IsLost (FileIsForeign g (FromStore it)) (FileRefuses g reaches gives draws (FromStore it)))
  lost_stored it closed (Ok x) h = tt
  lost_stored it closed (Err None) h = (files, closed, h)
  lost_stored it closed (Err (Some cause)) (inl drawn) = inl drawn
  lost_stored it closed (Err (Some cause)) (inr h) = inr (files, closed, h)

-- where the files of pages were opened whole, they were looked at for our trees
pub foreign_closed : {D : Type 0} (g : Ghosts D) (files : Files D) (it : Pool D g) → (files.log, files.db) ≡ pool.files it
    → (r : Result (Kept (FileStore D g) (Held (FileStore D g))) Cause) → IfOk r (λ kept. OfFiles g files (put_part kept))
    → IfOk r (IfWhole (FileIsForeign g (FromPages it)))
foreign_closed g files it closed (Ok (Trees found)) h = tt
foreign_closed g files it closed (Ok (Whole conn)) (left, are, finds) = (files, closed, (left, are))
foreign_closed g files it closed (Err cause) h = tt
