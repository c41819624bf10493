-- What came of the file at a path.
use Rattle.std.specs.Prelude.{◌≡◌, ℕ, List, Option, Some, None}
use Rattle.sqlite_trees.specs.View.{IsQuiet, IsRolledBack}
use Rattle.sqlite_trees.specs.declared.store.Store.{Ghosts}
use Rattle.sqlite_pages.specs.declared.pages.Pages.{Ghosts as PagesGhosts}
use Rattle.sqlite.specs.Held.{Held, state}
use Rattle.sqlite.specs.State.{HasCleanDisk, KeepsCommit, Survives}
use Rattle.keep_trees.specs.declared.page_trees.PageTrees.{PageTrees}
use Rattle.keep_database.specs.declared.proved.ProvedKeeper.{ProvedKeeper}
use Rattle.keep_files.specs.declared.cause.Cause.{Cause}
use Rattle.keep_files.specs.declared.kept.Kept.{Kept}
use Rattle.keep_files.specs.declared.kept.Kept.TheVariants.{Trees, Whole}
use Rattle.keep_files.specs.Looks.{AreFound}
use Rattle.keep_files.specs.Openings.{Opening, FromPath, FromPages, FromStore, Part, AsTrees, AsStore, AsWhole}
use Rattle.keep_files.specs.Openings.{IsAdopted, NotOpened, Tries}

-- a connection was asked for something: what was committed stays
pub record WasAsked {S : Type 0} (g : Ghosts S) (old new : Held S) : Type 0 where
  pub kept : HasCleanDisk (state g new) → KeepsCommit (state g old) (state g new)
  pub crash : Survives (state g old) (state g new) (λ _. ⊥)

-- a store was taken out of a connection, which is rolled back
pub record IsTakenOut {S : Type 0} (g : Ghosts S) (conn : Held S) (store : S) : Type 0 where
  pub undone : IsRolledBack (g.view conn.store) (g.view store)
  pub quiet : IsQuiet g.view g.faults g.recovers g.is_shielded conn.store store

-- what comes of something: what is had of it by asking a connection, by adopting a keeper on it, by taking its store
-- out, by a put, and by opening the file of the pages of trees or of a store again
pub data Comes {P S : Type 0} (g : Ghosts S) (gives : Opening P S → Part P S → Type 0) (puts : S → S → Type 0)
    (first : Part P S → Type 0) : Part P S → Type 0 where
  at_first : (part : Part P S) → first part → Comes g gives puts first part
  by_query : (old new : Held S) → Comes g gives puts first (AsWhole old) → WasAsked g old new →
      Comes g gives puts first (AsWhole new)
  by_adopting : (conn : Held S) (keeper : ProvedKeeper S) → Comes g gives puts first (AsWhole conn) →
      IsAdopted g (λ from. from ≡ conn) keeper → Comes g gives puts first (AsWhole keeper.conn)
  by_taking_out : (conn : Held S) (store : S) → Comes g gives puts first (AsWhole conn) →
      IsTakenOut g conn store → Comes g gives puts first (AsStore store)
  by_put : (old new : S) → Comes g gives puts first (AsStore old) → puts old new →
      Comes g gives puts first (AsStore new)
  of_pages : (trees : PageTrees P) (part : Part P S) → Comes g gives puts first (AsTrees trees) →
      gives (FromPages trees.pages) part → Comes g gives puts first part
  of_store : (store : S) (part : Part P S) → Comes g gives puts first (AsStore store) →
      gives (FromStore store) part → Comes g gives puts first part

-- nothing is put
abbrev pub PutsNothing : {S : Type 0} → S → S → Type 0
PutsNothing old new = ⊥

-- what a call begins with: what is held; or, where nothing is, what is opened at the path
abbrev pub IsFirst : {P S : Type 0} → (Opening P S → Part P S → Type 0) → List ℕ →
    Option (Kept (PageTrees P) (ProvedKeeper S)) → Part P S → Type 0
IsFirst gives path None part = gives (FromPath path) part
IsFirst gives path (Some (Trees trees)) part = part ≡ AsTrees trees
IsFirst gives path (Some (Whole keeper)) part = part ≡ AsWhole keeper.conn

-- what came of the file at a path, or of what was held of it
abbrev pub OfFile : {P S : Type 0} → Ghosts S → (Opening P S → Part P S → Type 0) → (S → S → Type 0) → List ℕ →
    Option (Kept (PageTrees P) (ProvedKeeper S)) → Part P S → Type 0
OfFile g gives puts path held = Comes g gives puts (IsFirst gives path held)

-- trees that were found came as said
abbrev pub FoundOf : {P S : Type 0} → PagesGhosts P → (Part P S → Type 0) → PageTrees P → Type 0
FoundOf p comes trees = AreFound p trees × comes (AsTrees trees)

-- a keeper was adopted on a connection that came as said
abbrev pub AdoptedOf : {P S : Type 0} → Ghosts S → (Part P S → Type 0) → ProvedKeeper S → Type 0
AdoptedOf g comes = IsAdopted g (λ conn. comes (AsWhole conn))

-- trees were found in the file of a store as it was opened again
abbrev pub FoundAgain : {P S : Type 0} → PagesGhosts P → (Opening P S → Part P S → Type 0) → S → PageTrees P → Type 0
FoundAgain p gives store trees = AreFound p trees × gives (FromStore store) (AsTrees trees)

-- where nothing was held before, the file at the path was opened, or it was not, for a cause
abbrev pub TriesPath : {P S : Type 0} → Ghosts S → (Opening P S → Part P S → Type 0) →
    (Opening P S → Cause → Type 0) → List ℕ → Option (Kept (PageTrees P) (ProvedKeeper S)) → Type 0
TriesPath g gives refuses path old =
    old ≡ None → Tries (NotOpened g (OfFile g gives PutsNothing path old) refuses) path gives
