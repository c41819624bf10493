-- What pages and a store find of two files that are handed to them.
use Rattle.std.specs.Prelude.{◌≡◌, ℕ, IsTrue}
use Rattle.sqlite_disk.specs.declared.Disk.{Ghosts}
use Rattle.sqlite_wal.specs.Files.{seen_image}
use Rattle.sqlite_wal.specs.Reads.{AreClean}
use Rattle.sqlite_pool.specs.Stored.{Recovers}
use Rattle.sqlite_pool.specs.declared.pool.Pool.{Pool}
use Rattle.sqlite_pool.specs.Pool as pages
use Rattle.sqlite_store.specs.declared.store.FileStore.{FileStore}
use Rattle.sqlite_store.specs.FileStore.{view}
use Rattle.sqlite_store.specs.FileStore as store
use Rattle.sqlite_trees.specs.View.{IsClean}
use Rattle.keep_office.specs.Office.{Office}
use Rattle.keep_trees.specs.declared.page_trees.PageTrees.{PageTrees}
use Rattle.keep_trees.specs.Pages.{StandForOffice}
use Rattle.keep_puts.specs.Trees.{StandFor}
use Rattle.keep_puts.specs.Passing.{IsOnlyRead, IsOnOurs, PagesHold}

module _ {D : Type 0} {g : Ghosts D} where
  -- pages of so many bytes over a log and a database file, of which nothing is read yet
  pub record IsOver (size : ℕ) (log db : D) (it : Pool D g) : Type 0 where
    pub files_are : pages.files it ≡ (log, db)
    pub sized : (pages.state it).page_size ≡ size

  -- pages that a recovery found in a log and a database file
  pub record FindsPages (size : ℕ) (log db : D) (it : Pool D g) : Type 0 where
    pub was_clean : AreClean g log db
    pub sized : (pages.state it).page_size ≡ size
    pub only_read : IsOnlyRead it
    pub found : Recovers size (seen_image g log db) (pages.state it).committed

  -- a store on our trees that an open found in them
  pub record FindsStore (size : ℕ) (log db : D) (it : FileStore D g) : Type 0 where
    pub sized : (store.state it).page_size ≡ size
    pub on_ours : IsOnOurs it
    pub found : Recovers size (seen_image g log db) (store.state it).committed

  -- a store has committed the office that pages held, if these were only read
  abbrev pub StoreHolds : Pool D g → FileStore D g → Type 0
  StoreHolds old new =
      IsClean (view new) → IsOnlyRead old → (o : Office) → PagesHold old o → StandFor (view new).committed o

  -- pages that were only read, whose trees stand for the office that a store had committed
  pub record TreesHold (old : FileStore D g) (trees : PageTrees (Pool D g)) : Type 0 where
    pub only_read : IsTrue (pages.state trees.pages).is_open → IsOnlyRead trees.pages
    pub stand : (o : Office) → StandFor (view old).committed o
        → ∥ StandForOffice (pages.state trees.pages).page_size (pages.usable trees.pages) trees.roots o ∥₁
