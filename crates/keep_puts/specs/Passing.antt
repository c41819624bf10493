-- What a file holds as it passes from its trees to a store and back.
use Rattle.std.specs.Prelude.{◌≡◌, ◌⊎◌, IsTrue}
use Rattle.sqlite_disk.specs.declared.Disk.{Ghosts}
use Rattle.sqlite_wal.specs.Recovery.{Image}
use Rattle.sqlite_wal.specs.State.{State}
use Rattle.sqlite_pool.specs.Stored.{Recovers}
use Rattle.sqlite_pool.specs.declared.pool.Pool.{Pool}
use Rattle.sqlite_pool.specs.Pool.{usable, Follows}
use Rattle.sqlite_pool.specs.Pool as pages
use Rattle.sqlite_pool.specs.Opening.{image}
use Rattle.sqlite_pool.specs.File.{in_use}
use Rattle.sqlite_store.specs.declared.store.FileStore.{FileStore}
use Rattle.sqlite_store.specs.FileStore.{view, schema_of, IsUnaltered}
use Rattle.sqlite_store.specs.FileStore as store
use Rattle.keep_office.specs.Office.{Office}
use Rattle.keep_trees.specs.Pages.{our_trees, HoldOffice}
use Rattle.keep_puts.specs.Trees.{StandFor}

-- what an opening finds of two files: what they read as, or what a crash leaves of them
abbrev pub MayBeFound : State → Image → Image → Type 0
MayBeFound it seen found = (found ≡ seen) ⊎ it.may_leave found

module _ {D : Type 0} {g : Ghosts D} where
  -- pages are open as the last commit left them: nothing was written since
  pub record IsOnlyRead (it : Pool D g) : Type 0 where
    pub is_open : IsTrue (pages.state it).is_open
    pub fresh : usable it ≡ in_use (pages.state it).page_size (pages.state it).committed

  -- pages that were only read are so after a call that wrote nothing and left them open
  abbrev pub StaysRead : Pool D g → Pool D g → Type 0
  StaysRead old new =
      IsOnlyRead old → Follows old new → usable new ≡ usable old → IsTrue (pages.state new).is_open → IsOnlyRead new

  -- the trees of pages stand for an office
  abbrev pub PagesHold : Pool D g → Office → Type 0
  PagesHold it = HoldOffice (pages.state it).page_size (usable it)

  -- a store is open on our trees, and has not changed their list
  pub record IsOnOurs (it : FileStore D g) : Type 0 where
    pub is_open : IsTrue (store.state it).is_open
    pub ours : schema_of it ≡ our_trees
    pub unaltered : IsUnaltered it

  -- a store that found what the files of pages read as has committed the office that these hold
  abbrev pub StoreFinds : Pool D g → FileStore D g → Type 0
  StoreFinds old new =
      IsOnlyRead old → IsOnOurs new → (store.state new).page_size ≡ (pages.state old).page_size
      → Recovers (pages.state old).page_size (image old) (store.state new).committed
      → (o : Office) → PagesHold old o → StandFor (view new).committed o

  -- pages that found what the files of a store read as, or what a crash left of them, hold the office that it committed
  abbrev pub PagesFind : FileStore D g → Pool D g → Type 0
  PagesFind old new =
      (found : Image) → MayBeFound (store.state old) (image old.pool) found → IsOnOurs old → IsOnlyRead new
      → (pages.state new).page_size ≡ (store.state old).page_size
      → Recovers (store.state old).page_size found (pages.state new).committed
      → (o : Office) → StandFor (view old).committed o → ∥ PagesHold new o ∥₁

  -- pages that found what the files of other pages read as, or what a crash left of them, hold the office that those held
  abbrev pub PagesFindAgain : Pool D g → Pool D g → Type 0
  PagesFindAgain old new =
      (found : Image) → MayBeFound (pages.state old) (image old) found → IsOnlyRead old → IsOnlyRead new
      → (pages.state new).page_size ≡ (pages.state old).page_size
      → Recovers (pages.state old).page_size found (pages.state new).committed
      → (o : Office) → PagesHold old o → PagesHold new o
