-- How a history that all begins anew with is put into a file.
use Rattle.std.specs.Prelude.{◌≡◌, ◌⊎◌, ℕ, Bool, true, false, List, Option, None, Result, Ok, Err, IsOk}
use Rattle.sqlite_trees.specs.declared.store.Store.{Ghosts}
use Rattle.sqlite_trees.specs.declared.error.StoreError.{StoreError}
use Rattle.sqlite_pages.specs.declared.pages.Pages.{Ghosts as PagesGhosts}
use Rattle.keep_office.specs.declared.kept.KeepFault.{KeepFault}
use Rattle.keep_trees.specs.declared.page_trees.PageTrees.{PageTrees}
use Rattle.keep_database.specs.declared.proved.ProvedKeeper.{ProvedKeeper}
use Rattle.keep_files.specs.declared.cause.Cause.{Cause}
use Rattle.keep_files.specs.declared.cause.Cause.TheVariants.{NotOurs}
use Rattle.keep_files.specs.declared.kept.Kept.{Kept}
use Rattle.keep_files.specs.declared.place.Places.{Places}
use Rattle.keep_files.specs.Openings.{Opening, Part, AsTrees, AsStore, NotOpened, IsOpeningOf}
use Rattle.keep_files.specs.Openings.{WasUnopened, IsNotAnew, IsToldBy}
use Rattle.keep_files.specs.Origins.{Comes, OfFile, PutsNothing, FoundAgain}
use Rattle.keep_files.specs.Asked.{HoldsFound, IsToldOf}
use Rattle.keep_files.specs.Places.{IsPutThere, LooksFirst}

-- the answer is that of the store; where that does not have our trees, it is refused
abbrev pub IsToldAnew : Option Cause → Result Bool StoreError → Result (Unit {0}) KeepFault → Type 0
IsToldAnew said (Ok true) result = IsOk result
IsToldAnew said (Ok false) result = IsToldBy said result NotOurs
IsToldAnew said (Err e) result = IsToldOf said result e

-- it was put into a store that came as said, and that is let go; trees that were found in its file again are held then
pub record IsPutAnew {T K X : Type 0} (comes : X → Type 0) (again : X → T → Type 0)
    (see : X → X → Result Bool StoreError → Type 0) (held : Option (Kept T K)) (said : Option Cause)
    (result : Result (Unit {0}) KeepFault) : Type 0 where
  pub before : X
  pub after : X
  pub answer : Result Bool StoreError
  pub from : comes before
  pub stores : see before after answer
  pub told : IsToldAnew said answer result
  pub kept : HoldsFound (again after) held

-- what was opened, and came as said, is not exactly ours
abbrev pub IsForeign : {P S : Type 0} → (Opening P S → Type 0) → (Part P S → Type 0) → Opening P S → Type 0
IsForeign foreign comes opening = IsOpeningOf comes opening × foreign opening

module _ {P S : Type 0} (p : PagesGhosts P) (g : Ghosts S) (gives : Opening P S → Part P S → Type 0)
    (refuses : Opening P S → Cause → Type 0) (foreign : Opening P S → Type 0)
    (see : S → S → Result Bool StoreError → Type 0) where
  -- it was put into a store that came as said; or no store could be opened, for a cause, and nothing is held
  abbrev pub IsAskedAnew : List ℕ → Option (Kept (PageTrees P) (ProvedKeeper S)) → Option Cause →
      Result (Unit {0}) KeepFault → (Part P S → Type 0) → Type 0
  IsAskedAnew path held said result comes =
      IsPutAnew (λ s. comes (AsStore s)) (FoundAgain p gives) see held said result
      ⊎ ((held ≡ None) × WasUnopened (IsNotAnew (NotOpened g comes refuses) path (IsForeign foreign comes)) said result)

  -- it came of trees
  abbrev pub IsAnewByTrees : PageTrees P → List ℕ → Option (Kept (PageTrees P) (ProvedKeeper S)) → Option Cause →
      Result (Unit {0}) KeepFault → Type 0
  IsAnewByTrees trees path held said result =
      IsAskedAnew path held said result (Comes g gives PutsNothing (λ part. part ≡ AsTrees trees))

  -- it came of the file at the path, or of what was held of it
  abbrev pub AnewReady : Option (Kept (PageTrees P) (ProvedKeeper S)) → List ℕ →
      Option (Kept (PageTrees P) (ProvedKeeper S)) → Option Cause → Result (Unit {0}) KeepFault → Type 0
  AnewReady old path held said result =
      IsAskedAnew path held said result (OfFile g gives PutsNothing path old)

module _ {P S : Type 0} (p : PagesGhosts P) (g : Ghosts S) (gives : Opening P S → Part P S → Type 0)
    (refuses : Opening P S → Cause → Type 0) (foreign : Opening P S → Type 0) (there : List ℕ → Places → Type 0)
    (gone : List ℕ → Places → Cause → Type 0) (see : S → S → Result Bool StoreError → Type 0) where
  -- it is begun anew once what is held was found where it lay, and is told once the files were found where they lie
  -- then; else what is held is let go
  abbrev pub AskedAnew : Option Places → Option Places → Option (Kept (PageTrees P) (ProvedKeeper S)) → List ℕ →
      Option (Kept (PageTrees P) (ProvedKeeper S)) → Option Cause → Result (Unit {0}) KeepFault → Type 0
  AskedAnew before after old path held said result =
      LooksFirst (there path) (gone path) before old held said result
      (IsPutThere (there path) (gone path) after (AnewReady p g gives refuses foreign see old path) held said result)
