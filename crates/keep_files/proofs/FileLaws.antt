-- What a store of files gives where something is opened.
use Rattle.std.proofs.Common.{◌≡◌, ℕ, List, Result, Ok, Err, IfOk}
use Rattle.std.proofs.Common.{sym, subst, ap, ◌∙◌}
use Rattle.sqlite_disk.specs.declared.Disk.{Ghosts}
use Rattle.sqlite_disk.specs.declared.Files.{Files}
use Rattle.sqlite_wal.specs.Recovery.{Image}
use Rattle.sqlite_wal.specs.Files.{seen_image}
use Rattle.sqlite_pool.specs.declared.pool.Pool.{Pool}
use Rattle.sqlite_pool.specs.File.{in_use}
use Rattle.sqlite_pool.specs.Pool as pool
use Rattle.sqlite_pool.specs.Stored.{Recovers}
use Rattle.sqlite_store.specs.declared.store.FileStore.{FileStore}
use Rattle.sqlite_store.specs.FileStore as store
use Rattle.sqlite.specs.Files.{image_of}
use Rattle.keep_files.specs.Files.{FileGives, OfClosed, OfFiles, Shows}
use Rattle.keep_files.specs.Openings.{FromPath, FromPages, FromStore, Part}

-- what is read of a pair of files is what was read of them before
pub image_is : {D : Type 0} (g : Ghosts D) (now files : Files D) (pair : D × D) → pair ≡ (now.log, now.db) →
    image_of g now ≡ image_of g files → seen_image g pair.0 pair.1 ≡ image_of g files
image_is {D} g now files pair is same = ap (λ (p : D × D). seen_image g p.0 p.1) is ∙ same

module _ {D X E : Type 0} (g : Ghosts D) (reaches : List ℕ → Files D → Type 0) (files : Files D)
    (part : X → Part (Pool D g) (FileStore D g)) where
  -- what was opened of the files that the disk gave for a path, was opened at the path
  pub of_path : (path : List ℕ) → reaches path files → (r : Result X E) → IfOk r (λ x. OfFiles g files (part x))
      → IfOk r (λ x. FileGives g reaches (FromPath path) (part x))
  of_path path given (Ok x) h = (files, given, h)
  of_path path given (Err e) h = tt

  -- the same of the files of pages
  pub of_closed : (it : Pool D g) → (files.log, files.db) ≡ pool.files it → (r : Result X E)
      → IfOk r (λ x. OfFiles g files (part x)) → IfOk r (λ x. FileGives g reaches (FromPages it) (part x))
  of_closed it closed (Ok x) h = (files, closed, h)
  of_closed it closed (Err e) h = tt

  -- and of those of a store
  pub of_stored : (it : FileStore D g) → (files.log, files.db) ≡ store.files it → (r : Result X E)
      → IfOk r (λ x. OfClosed g files (part x)) → IfOk r (λ x. FileGives g reaches (FromStore it) (part x))
  of_stored it closed (Ok x) h = (files, closed, h)
  of_stored it closed (Err e) h = tt

module _ {D : Type 0} {g : Ghosts D} where
  -- pages that show the same as others show what the files recover to
  pub shows_on : (seen read : Image) (before after : Pool D g) → seen ≡ read
      → (pool.state after).page_size ≡ (pool.state before).page_size → pool.usable after ≡ pool.usable before
      → Shows seen before → Shows read after
  shows_on seen read before after is size same h = record {
    pages = h.pages;
    found =
        subst (λ (n : ℕ). Recovers n read h.pages) (sym size)
        (subst (λ (i : Image). Recovers (pool.state before).page_size i h.pages) is h.found);
    shown = same ∙ subst (λ (n : ℕ). pool.usable before ≡ in_use n h.pages) (sym size) h.shown;
  }
