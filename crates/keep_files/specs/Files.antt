-- What a store of files gives where something is opened.
use Rattle.std.specs.Prelude.{◌≡◌, ◌⊎◌, ℕ, List, length, Some, IsTrue}
use Rattle.sqlite_disk.specs.declared.Disk.{Ghosts}
use Rattle.sqlite_disk.specs.declared.Files.{Files}
use Rattle.sqlite_wal.specs.Files.{outcomes}
use Rattle.sqlite_wal.specs.Format.{be32}
use Rattle.sqlite_wal.specs.Reads.{AreClean}
use Rattle.sqlite_wal.specs.Recovery.{Image}
use Rattle.sqlite_wal.specs.Recovery as raw
use Rattle.sqlite_pages.specs.Outcome.{doubt}
use Rattle.sqlite_pages.specs.PageMap.{PageMap}
use Rattle.sqlite_pool.specs.declared.pool.Pool.{Pool}
use Rattle.sqlite_pool.specs.Backing.{Reopens}
use Rattle.sqlite_pool.specs.File.{in_use}
use Rattle.sqlite_pool.specs.Opening.{image as image_in}
use Rattle.sqlite_pool.specs.Pool as pool
use Rattle.sqlite_pool.specs.Stored.{IsUnreadable, Recovers, RecoversAs}
use Rattle.sqlite_store.specs.declared.store.FileStore.{FileStore}
use Rattle.sqlite_store.specs.FileStore as store
use Rattle.sqlite.specs.Files.{BeginsWell, Finds, NamesSize, file_state, image_of}
use Rattle.sqlite.specs.State.{HasCleanDisk}
use Rattle.keep_trees.specs.Pages.{our_trees}
use Rattle.keep_files.specs.Openings.{Opening, FromPath, FromPages, FromStore, Part, AsTrees, AsStore, AsWhole}

-- the first page, where it is whole, says that no byte of a page is set aside, as it would be for a sum
abbrev pub SetsNoneAside : ℕ → Image → Type 0
SetsNoneAside size image =
    (pages : PageMap) (first : List ℕ) → raw.Recovers size image pages → pages 1 ≡ Some first → length first ≡ size →
    be32 first 20 ≡ 0x0040_2020

-- files have the form that the programs give them: pages of 4096 bytes, of which the first begins as that of a database
-- and no byte is set aside
pub record HaveOurForm (image : Image) : Type 0 where
  pub sized : NamesSize image 4096
  pub begins : BeginsWell 4096 image
  pub plain : SetsNoneAside 4096 image

-- what a crash leaves is what it left before, or stands for all that files stood for that read as that; where these
-- stood for nothing, it is what it left before
pub record IsAsBefore (size : ℕ) (read : Image) (leaves : Image → Type 0) (image : Image) : Type 0 where
  pub same : leaves image ⊎ RecoversAs size read image
  pub unread : IsUnreadable size read → leaves image

module _ {D : Type 0} {g : Ghosts D} where
  -- pages were opened, or could not be: whatever a crash leaves of them is as before
  pub record WereOpened (it last : Pool D g) : Type 0 where
    pub kept : Reopens (pool.state it) (pool.state last)
    pub crash : (image : Image) → (pool.state last).may_leave image
        → IsAsBefore (pool.state it).page_size (image_in it) (pool.state it).may_leave image

  -- what files read as recovers to pages, and the pages are those of them that are in use
  pub record Shows (image : Image) (it : Pool D g) : Type 0 where
    pub pages : PageMap
    pub found : Recovers (pool.state it).page_size image pages
    pub shown : pool.usable it ≡ in_use (pool.state it).page_size pages

  -- what files read as recovers to what a store has committed, in pages of 4096 bytes
  pub record IsRecoveredFrom (image : Image) (it : FileStore D g) : Type 0 where
    pub sized : (store.state it).page_size ≡ 4096
    pub found : Recovers 4096 image (store.state it).committed

module _ {D : Type 0} (g : Ghosts D) where
  -- what a crash leaves is as before for files
  abbrev pub IsAsBeforeFor : Files D → Image → Type 0
  IsAsBeforeFor files = IsAsBefore 4096 (image_of g files) (outcomes g files.log files.db)

  -- pages have 4096 bytes and, unless the disk lied, are of files of our form, and show what these recover to; whatever
  -- a crash leaves of them is as before
  pub record ArePagesOf (files : Files D) (it : Pool D g) : Type 0 where
    pub sized : (pool.state it).page_size ≡ 4096
    pub form : doubt (pool.state it).is_clean ≡ 0 → HaveOurForm (image_of g files)
    pub shown : doubt (pool.state it).is_clean ≡ 0 → Shows (image_of g files) it
    pub crash : doubt (pool.state it).is_clean ≡ 0 → (image : Image) → (pool.state it).may_leave image
        → IsAsBeforeFor files image

  -- a store is on our trees, each at its number, with nothing written; unless the disk lied, it is of files of our
  -- form, and has committed what these recover to; whatever a crash leaves of it is as before
  pub record IsStoreOf (files : Files D) (it : FileStore D g) : Type 0 where
    pub ours : store.schema_of it ≡ our_trees
    pub ready : store.IsReady it
    pub form : IsTrue (store.state it).is_clean → HaveOurForm (image_of g files)
    pub recovered : IsTrue (store.state it).is_clean → IsRecoveredFrom (image_of g files) it
    pub crash : IsTrue (store.state it).is_clean → (image : Image) → (store.state it).may_leave image
        → IsAsBeforeFor files image

  -- files after a look for our trees in them: where they did not have our form, they read as before; else what they
  -- read as, and whatever a crash leaves of them, is as before
  pub record AreLeft (files left : Files D) : Type 0 where
    pub honest : AreClean g left.log left.db → AreClean g files.log files.db
    pub foreign : AreClean g left.log left.db → ¬ HaveOurForm (image_of g files)
        → image_of g left ≡ image_of g files
    pub crash : AreClean g left.log left.db → (image : Image) → outcomes g left.log left.db image
        → IsAsBeforeFor files image
    pub same : AreClean g left.log left.db → IsAsBeforeFor files (image_of g left)

  -- what was opened of files at which nobody looked before: their pages, a store of them, or the whole file, which is
  -- found in them
  abbrev pub OfClosed : Files D → Part (Pool D g) (FileStore D g) → Type 0
  OfClosed files (AsTrees trees) = ArePagesOf files trees.pages
  OfClosed files (AsStore it) = IsStoreOf files it
  OfClosed files (AsWhole conn) = HasCleanDisk (file_state conn) → Finds files conn

  -- the same, but that the whole file is found in what a look for our trees left of them
  abbrev pub OfFiles : Files D → Part (Pool D g) (FileStore D g) → Type 0
  OfFiles files (AsTrees trees) = ArePagesOf files trees.pages
  OfFiles files (AsStore it) = IsStoreOf files it
  OfFiles files (AsWhole conn) =
      (left : Files D) × AreLeft files left × (HasCleanDisk (file_state conn) → Finds left conn)

  -- what was opened is of files that the disk gave for the path, or of those that the pages or the store had
  abbrev pub FileGives : (List ℕ → Files D → Type 0) → Opening (Pool D g) (FileStore D g) →
      Part (Pool D g) (FileStore D g) → Type 0
  FileGives reaches (FromPath path) part = (files : Files D) × reaches path files × OfFiles files part
  FileGives reaches (FromPages pages) part =
      (files : Files D) × ((files.log, files.db) ≡ pool.files pages) × OfFiles files part
  FileGives reaches (FromStore it) part =
      (files : Files D) × ((files.log, files.db) ≡ store.files it) × OfClosed files part
