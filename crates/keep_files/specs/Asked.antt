-- What is held of a file, and how a call of it is made.
use Rattle.std.specs.Prelude.{◌≡◌, ◌⊎◌, ℕ, Bool, true, false, List, Option, Some, None, Result, Ok, Err, IsOk}
use Rattle.std.specs.Prelude.{IsSomeAnd}
use Rattle.sqlite_value.specs.Order.{Row}
use Rattle.sqlite_trees.specs.Tree.{Trees as Contents}
use Rattle.sqlite_trees.specs.declared.store.Store.{Ghosts}
use Rattle.sqlite_trees.specs.declared.error.StoreError.{StoreError}
use Rattle.sqlite_trees.specs.declared.error.StoreError.TheVariants.{OutOfMemory, Io, Corrupt, Full, Broken, Unstorable}
use Rattle.sqlite_pages.specs.declared.pages.Pages.{Ghosts as PagesGhosts}
use Rattle.sqlite.specs.Held.{Held, state}
use Rattle.sqlite.specs.State.{State, HasCleanDisk}
use Rattle.keep_office.specs.declared.kept.KeepFault.{KeepFault}
use Rattle.keep_office.specs.declared.kept.KeepFault.TheVariants.{Failed, NoMemory}
use Rattle.keep_office.specs.Office.{Office}
use Rattle.keep_tables.specs.Steps.{FitsAny}
use Rattle.keep_trees.specs.declared.page_trees.PageTrees.{PageTrees}
use Rattle.keep_database.specs.declared.proved.ProvedKeeper.{ProvedKeeper}
use Rattle.keep_files.specs.declared.cause.Cause.{Cause}
use Rattle.keep_files.specs.declared.kept.Kept.{Kept}
use Rattle.keep_files.specs.declared.place.Places.{Places}
use Rattle.keep_files.specs.declared.kept.Kept.TheVariants.{Trees, Whole}
use Rattle.keep_files.specs.Causes.{cause_in_store}
use Rattle.keep_files.specs.Does.{Does, PutFails, PutsRun, ReadFails}
use Rattle.keep_files.specs.Looks.{Looks}
use Rattle.keep_files.specs.Openings.{Opening, Part, AsTrees, AsStore, IsAdopted, LacksTables, NotOpened}
use Rattle.keep_files.specs.Openings.{WasUnopened, IsUnread, IsUnput}
use Rattle.keep_files.specs.Origins.{Comes, OfFile, PutsNothing, FoundOf, AdoptedOf, FoundAgain}
use Rattle.keep_files.specs.Places.{IsPutThere, LooksFirst}
use Rattle.keep_files.specs.Whys.{IsWhyOf}

-- the keeper that is called is the one that is held, or one that was opened for the call
abbrev pub IsReady : {T K : Type 0} → (K → Type 0) → Option (Kept T K) → K → Type 0
IsReady opened None before = opened before
IsReady opened (Some (Trees trees)) before = opened before
IsReady opened (Some (Whole kept)) before = before ≡ kept

-- trees or a keeper were found in a file
abbrev pub IsFound : {T K : Type 0} → (T → Type 0) → (K → Type 0) → Kept T K → Type 0
IsFound found opened (Trees trees) = found trees
IsFound found opened (Whole kept) = opened kept

-- what a call reads is what is held, or what was found for the call
abbrev pub IsReadyToRead : {T K : Type 0} → (T → Type 0) → (K → Type 0) → Option (Kept T K) → Kept T K → Type 0
IsReadyToRead found opened None before = IsFound found opened before
IsReadyToRead found opened (Some kept) before = before ≡ kept

-- no keeper is held
abbrev pub IsNotWhole : {T K : Type 0} → Option (Kept T K) → Type 0
IsNotWhole None = Unit {0}
IsNotWhole (Some (Trees trees)) = Unit {0}
IsNotWhole (Some (Whole kept)) = ⊥

-- it is held afterwards, and where the call failed it is let go
abbrev pub IsHeld : {A K : Type 0} → Result A KeepFault → Option K → K → Type 0
IsHeld (Ok x) held after = held ≡ Some after
IsHeld (Err NoMemory) held after = held ≡ Some after
IsHeld (Err Failed) held after = held ≡ None

-- a failure says a cause of what it was made of
abbrev pub SaysOf : {A W : Type 0} → (W → Cause → Type 0) → W → Option Cause → Result A KeepFault → Type 0
SaysOf why of said result = result ≡ Err Failed → IsSomeAnd said (why of)

-- a call was made of a keeper, and of what it was before and after this holds
pub record IsMade {T K A : Type 0} (may : K → Type 0) (why : Kept T K → Cause → Type 0) (view : K → State)
    (cause : K → K → Office → KeepFault → Type 0) (such : K → K → Type 0) (writes : Bool) (asks : Office → Type 0)
    (gives : Office → A → Type 0) (next : Office → Office) (held : Option (Kept T K))
    (said : Option Cause) (result : Result A KeepFault) : Type 0 where
  pub before : K
  pub after : K
  pub ready : may before
  pub does : Does (cause before after) writes asks gives next (view before) (view after) result
  pub shown : such before after
  pub kept : IsHeld result held (Whole after)
  pub says : SaysOf why (Whole after) said result

-- a call was made of trees
pub record IsLooked {T K A : Type 0} (may : T → Type 0) (why : Kept T K → Cause → Type 0)
    (see : T → T → Result A KeepFault → Type 0) (held : Option (Kept T K)) (said : Option Cause)
    (result : Result A KeepFault) : Type 0 where
  pub before : T
  pub after : T
  pub ready : may before
  pub looks : see before after result
  pub kept : IsHeld result held (Trees after)
  pub says : SaysOf why (Trees after) said result

module _ {P S A : Type 0} (p : PagesGhosts P) (g : Ghosts S) (gives : Opening P S → Part P S → Type 0)
    (refuses : Opening P S → Cause → Type 0) (takes : Office → Type 0) (answers : Office → A → Type 0)
    (shows : Held S → Result A KeepFault → Type 0) (tells : Contents → Result A KeepFault → Type 0)
    (old : Option (Kept (PageTrees P) (ProvedKeeper S))) (path : List ℕ)
    (held : Option (Kept (PageTrees P) (ProvedKeeper S))) (said : Option Cause) (result : Result A KeepFault) where
  -- a call that reads was made of trees, whose rows tell what is answered, or of a keeper, whose rows show it; they
  -- came as said; or nothing was held and nothing could be opened, for a cause
  abbrev pub IsRead : (Part P S → Type 0) → Type 0
  IsRead comes =
      IsLooked (λ t. IsReadyToRead (FoundOf p comes) (AdoptedOf g comes) old (Trees t)) (IsWhyOf g)
      (Looks p answers tells) held said result
      ⊎ (IsMade (λ k. IsReadyToRead (FoundOf p comes) (AdoptedOf g comes) old (Whole k)) (IsWhyOf g)
      (λ k. state g k.conn) (λ k l. ReadFails g takes k l)
      (λ k l. HasCleanDisk (state g l.conn) → shows k.conn result) false FitsAny answers (λ o. o) held said
      result
      ⊎ ((old ≡ None) × (held ≡ None) × WasUnopened (IsUnread (NotOpened g comes refuses) path) said result))

  -- they came of the file at the path, or are what was held of it
  abbrev pub ReadsReady : Type 0
  ReadsReady = IsRead (OfFile g gives PutsNothing path old)

module _ {P S A : Type 0} (p : PagesGhosts P) (g : Ghosts S) (gives : Opening P S → Part P S → Type 0)
    (refuses : Opening P S → Cause → Type 0) (there : List ℕ → Places → Type 0)
    (gone : List ℕ → Places → Cause → Type 0) (takes : Office → Type 0) (answers : Office → A → Type 0)
    (shows : Held S → Result A KeepFault → Type 0) (tells : Contents → Result A KeepFault → Type 0)
    (places : Option Places) (old : Option (Kept (PageTrees P) (ProvedKeeper S))) (path : List ℕ)
    (held : Option (Kept (PageTrees P) (ProvedKeeper S))) (said : Option Cause) (result : Result A KeepFault) where
  -- a call that reads is made once what is held was found where it lay; else that is let go
  abbrev pub AskedToRead : Type 0
  AskedToRead =
      LooksFirst (there path) (gone path) places old held said result
      (ReadsReady p g gives refuses takes answers shows tells old path held said result)

module _ {P S : Type 0} (g : Ghosts S) (gives : Opening P S → Part P S → Type 0) where
  -- what is ready for a call is what is held, or it was found for the call and came of the file at the path
  abbrev pub IsReadyOf : PagesGhosts P → List ℕ → Option (Kept (PageTrees P) (ProvedKeeper S)) →
      Kept (PageTrees P) (ProvedKeeper S) → Type 0
  IsReadyOf p path old =
      IsReadyToRead (FoundOf p (OfFile g gives PutsNothing path old)) (AdoptedOf g
      (OfFile g gives PutsNothing path old))
      old

  -- why nothing is: the file at the path was not opened
  abbrev pub IsUnreadOf : (Opening P S → Cause → Type 0) → List ℕ → Option (Kept (PageTrees P) (ProvedKeeper S)) →
      Cause → Type 0
  IsUnreadOf refuses path old = IsUnread (NotOpened g (OfFile g gives PutsNothing path old) refuses) path

-- what an error of a store is to a keeper
abbrev pub store_fault : StoreError → KeepFault
store_fault OutOfMemory = NoMemory
store_fault Io = Failed
store_fault Corrupt = Failed
store_fault Full = Failed
store_fault Broken = Failed
store_fault Unstorable = Failed

-- an error of a store is told, and its cause is said where it is a failure
abbrev pub IsToldOf : Option Cause → Result (Unit {0}) KeepFault → StoreError → Type 0
IsToldOf said result e = (result ≡ Err (store_fault e)) × (result ≡ Err Failed → said ≡ Some (cause_in_store e))

-- the answer of a put is that of the store; a put that did not fit it is none
abbrev pub IsToldAs : Option Cause → Result Bool StoreError → Result (Unit {0}) KeepFault → Type 0
IsToldAs said (Ok true) result = IsOk result
IsToldAs said (Ok false) result = ⊥
IsToldAs said (Err e) result = IsToldOf said result e

-- trees that were found in a file are held, or nothing is
abbrev pub HoldsFound : {T K : Type 0} → (T → Type 0) → Option (Kept T K) → Type 0
HoldsFound found None = Unit {0}
HoldsFound found (Some (Trees trees)) = found trees
HoldsFound found (Some (Whole kept)) = ⊥

-- a call that puts was made of a store that came as said, and that is let go; trees that were found in its file again
-- are held then
pub record IsStored {T K X : Type 0} (comes : X → Type 0) (again : X → T → Type 0)
    (see : X → X → Result Bool StoreError → Type 0) (held : Option (Kept T K)) (said : Option Cause)
    (result : Result (Unit {0}) KeepFault) : Type 0 where
  pub before : X
  pub after : X
  pub answer : Result Bool StoreError
  pub from : comes before
  pub stores : see before after answer
  pub told : IsToldAs said answer result
  pub kept : HoldsFound (again after) held

-- a put that was not done does not fit the store
abbrev pub Misfits : {S : Type 0} → (S → S → Result Bool StoreError → Type 0) → S → S → Type 0
Misfits see old new = see old new (Ok false)

module _ {P S : Type 0} (g : Ghosts S) (writes : List (List ℕ × Row)) (asks : Office → Type 0)
    (next : Office → Office) (held : Option (Kept (PageTrees P) (ProvedKeeper S))) (said : Option Cause)
    (result : Result (Unit {0}) KeepFault) where
  -- a call that puts was made of a keeper, which ran its texts
  abbrev pub IsPutBy : (ProvedKeeper S → Type 0) → Type 0
  IsPutBy may =
      IsMade may (IsWhyOf g) (λ k. state g k.conn) (λ k l _. PutFails g writes k l)
      (λ k l. PutsRun g writes k l result) true asks (λ o u. Unit {0}) next held said result

  -- it was made of a keeper on a connection; or that lacks its tables, and nothing is held
  abbrev pub IsPutOver : Held S → Type 0
  IsPutOver conn =
      IsPutBy (IsAdopted g (λ from. from ≡ conn))
      ⊎ ((held ≡ None) × WasUnopened (LacksTables g (λ from. from ≡ conn)) said result)

module _ {P S : Type 0} (p : PagesGhosts P) (g : Ghosts S) (gives : Opening P S → Part P S → Type 0)
    (refuses : Opening P S → Cause → Type 0) (see : S → S → Result Bool StoreError → Type 0)
    (writes : List (List ℕ × Row)) (asks : Office → Type 0) (next : Office → Office) where
  -- a call that puts was made of a store that came as said; or nothing could be opened, for a cause, and nothing is
  -- held
  abbrev pub IsPutIn : List ℕ → Option (Kept (PageTrees P) (ProvedKeeper S)) → Option Cause →
      Result (Unit {0}) KeepFault → (Part P S → Type 0) → Type 0
  IsPutIn path held said result comes =
      IsStored (λ s. comes (AsStore s)) (FoundAgain p gives) see held said result
      ⊎ ((held ≡ None) × WasUnopened (IsUnput (NotOpened g comes refuses) path) said result)

  -- the same, or it was made of a keeper that came as said
  abbrev pub IsPut : List ℕ → Option (Kept (PageTrees P) (ProvedKeeper S)) → Option Cause →
      Result (Unit {0}) KeepFault → (Part P S → Type 0) → Type 0
  IsPut path held said result comes =
      IsPutBy g writes asks next held said result (AdoptedOf g comes) ⊎ IsPutIn path held said result comes

  -- it was made by the trees: of what came of them
  abbrev pub IsPutByTrees : PageTrees P → List ℕ → Option (Kept (PageTrees P) (ProvedKeeper S)) → Option Cause →
      Result (Unit {0}) KeepFault → Type 0
  IsPutByTrees trees path held said result =
      IsPut path held said result (Comes g gives (Misfits see) (λ part. part ≡ AsTrees trees))

  -- it was made of the keeper that is held; or none was, and it was made of a store or of a keeper that came as said,
  -- or none could be opened, for a cause
  abbrev pub IsAskedToPut : Option (Kept (PageTrees P) (ProvedKeeper S)) → List ℕ →
      Option (Kept (PageTrees P) (ProvedKeeper S)) → Option Cause → Result (Unit {0}) KeepFault →
      (Part P S → Type 0) → Type 0
  IsAskedToPut old path held said result comes =
      IsPutBy g writes asks next held said result (IsReady (AdoptedOf g comes) old)
      ⊎ (IsNotWhole old × IsPutIn path held said result comes)

  -- they came of the file at the path, or of what was held of it
  abbrev pub PutsReady : Option (Kept (PageTrees P) (ProvedKeeper S)) → List ℕ →
      Option (Kept (PageTrees P) (ProvedKeeper S)) → Option Cause → Result (Unit {0}) KeepFault → Type 0
  PutsReady old path held said result =
      IsAskedToPut old path held said result (OfFile g gives (Misfits see) path old)

module _ {P S : Type 0} (p : PagesGhosts P) (g : Ghosts S) (gives : Opening P S → Part P S → Type 0)
    (refuses : Opening P S → Cause → Type 0) (there : List ℕ → Places → Type 0)
    (gone : List ℕ → Places → Cause → Type 0) (see : S → S → Result Bool StoreError → Type 0)
    (writes : List (List ℕ × Row)) (asks : Office → Type 0) (next : Office → Office) where
  -- a call that puts is made once what is held was found where it lay, and is told once the files were found where they
  -- lie then; else what is held is let go
  abbrev pub AskedToPut : Option Places → Option Places → Option (Kept (PageTrees P) (ProvedKeeper S)) → List ℕ →
      Option (Kept (PageTrees P) (ProvedKeeper S)) → Option Cause → Result (Unit {0}) KeepFault → Type 0
  AskedToPut before after old path held said result =
      LooksFirst (there path) (gone path) before old held said result
      (IsPutThere (there path) (gone path) after (PutsReady p g gives refuses see writes asks next old path) held said
      result)
