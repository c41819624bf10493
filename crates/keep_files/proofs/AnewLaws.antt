-- A history that all begins anew with, put into a store.
use Rattle.std.proofs.Common.{◌≡◌, inl, inr, ℕ, Bool, true, false, List, Option, Some, None, Result, Ok, Err}
use Rattle.std.proofs.Common.{refl, sym, subst, ap, ◌∙◌}
use Rattle.sqlite_trees.specs.declared.store.Store.{Ghosts}
use Rattle.sqlite_trees.specs.declared.error.StoreError.{StoreError}
use Rattle.sqlite_pages.specs.declared.pages.Pages.{Ghosts as PagesGhosts}
use Rattle.keep_office.specs.declared.kept.KeepFault.{KeepFault}
use Rattle.keep_office.specs.declared.kept.KeepFault.TheVariants.{Failed}
use Rattle.keep_trees.specs.declared.page_trees.PageTrees.{PageTrees}
use Rattle.keep_database.specs.declared.proved.ProvedKeeper.{ProvedKeeper}
use Rattle.keep_files.specs.declared.cause.Cause.{Cause}
use Rattle.keep_files.specs.declared.kept.Kept.{Kept}
use Rattle.keep_files.specs.Anew.{IsToldAnew, IsAskedAnew, IsAnewByTrees, AnewReady, IsForeign}
use Rattle.keep_files.specs.declared.cause.Cause.TheVariants.{NotOurs}
use Rattle.keep_files.specs.Causes.{cause_in_store}
use Rattle.keep_files.specs.Asked.{HoldsFound, store_fault}
use Rattle.keep_files.specs.Openings.{Opening, Part, AsTrees, AsStore, NotOpened, IsNotAnew, IsToldBy}
use Rattle.keep_files.specs.Origins.{Comes, OfFile, IsFirst, PutsNothing, FoundAgain}
use Rattle.keep_files.proofs.AskedLaws.{told_of, unopened_so}
use Rattle.keep_files.proofs.OriginLaws.{opening_so, unput_so, trees_so}

-- it was put anew
pub told_anew : (said : Option Cause) (u : Unit {0}) (answer : Result Bool StoreError) (done : Bool) →
    answer ≡ Ok done → done ≡ true → IsToldAnew said answer (Ok u)
told_anew said u answer done is so =
    subst (λ (r : Result Bool StoreError). IsToldAnew said r (Ok u)) (sym (is ∙ ap Ok so)) refl

-- the store does not have our trees
pub told_foreign : (said : Option Cause) (fault : KeepFault) (answer : Result Bool StoreError) (done : Bool) →
    answer ≡ Ok done → done ≡ false → IsToldBy {A = Unit {0}} said (Err fault) NotOurs →
    IsToldAnew said answer (Err fault)
told_foreign said fault answer done is so told =
    subst (λ (r : Result Bool StoreError). IsToldAnew said r (Err fault)) (sym (is ∙ ap Ok so)) told

-- it failed in the store
pub told_failed_anew : (said : Option Cause) (fault : KeepFault) (answer : Result Bool StoreError)
    (error : StoreError) → answer ≡ Err error → fault ≡ store_fault error →
    (fault ≡ Failed → said ≡ Some (cause_in_store error)) → IsToldAnew said answer (Err fault)
told_failed_anew said fault answer error is told which =
    subst (λ (r : Result Bool StoreError). IsToldAnew said r (Err fault)) (sym is)
    (told_of said fault error told which)

module _ {P S : Type 0} (p : PagesGhosts P) (g : Ghosts S) (gives : Opening P S → Part P S → Type 0)
    (refuses : Opening P S → Cause → Type 0) (foreign : Opening P S → Type 0)
    (see : S → S → Result Bool StoreError → Type 0) (path : List ℕ)
    (held : Option (Kept (PageTrees P) (ProvedKeeper S))) (said : Option Cause) (result : Result (Unit {0}) KeepFault)
    (comes : Part P S → Type 0) where
  -- it was put into a store
  pub put_anew_so : (before after : S) (answer : Result Bool StoreError) → comes (AsStore before)
      → see before after answer → IsToldAnew said answer result
      → HoldsFound (FoundAgain p gives after) held
      → IsAskedAnew p g gives refuses foreign see path held said result comes
  put_anew_so before after answer from stores told kept = inl (record {
    before = before;
    after = after;
    answer = answer;
    from = from;
    stores = stores;
    told = told;
    kept = kept;
  })

  -- no store could be opened, for a cause
  pub not_anew : (why : Cause) → held ≡ None → IsNotAnew (NotOpened g comes refuses) path (IsForeign foreign comes) why
      → IsToldBy said result why → IsAskedAnew p g gives refuses foreign see path held said result comes
  not_anew why none known told = inr (none, record { cause = why; known = known; told = told })

  -- what was put into what came of something, was put into what came of where that came from
  pub anew_so : (comes' : Part P S → Type 0) → ((part : Part P S) → comes part → comes' part)
      → IsAskedAnew p g gives refuses foreign see path held said result comes
      → IsAskedAnew p g gives refuses foreign see path held said result comes'
  anew_so comes' more (inl put) = inl (record {
    before = put.before;
    after = put.after;
    answer = put.answer;
    from = more (AsStore put.before) put.from;
    stores = put.stores;
    told = put.told;
    kept = put.kept;
  })
  anew_so comes' more (inr unopened) =
      inr (
        unopened.0,
        unopened_so _ (IsNotAnew (NotOpened g comes' refuses) path (IsForeign foreign comes')) said result
            because unopened.1,
      )
    where
      because : (cause : Cause) → IsNotAnew (NotOpened g comes refuses) path (IsForeign foreign comes) cause →
          IsNotAnew (NotOpened g comes' refuses) path (IsForeign foreign comes') cause
      because cause (inl unput) = inl (unput_so g refuses path comes comes' more cause unput)
      because cause (inr other) =
          inr
          (other.0, (other.1.0, (opening_so comes comes' other.1.0 more other.1.1.0, other.1.1.1)))

module _ {P S : Type 0} (p : PagesGhosts P) (g : Ghosts S) (gives : Opening P S → Part P S → Type 0)
    (refuses : Opening P S → Cause → Type 0) (foreign : Opening P S → Type 0)
    (see : S → S → Result Bool StoreError → Type 0) (path : List ℕ)
    (old held : Option (Kept (PageTrees P) (ProvedKeeper S))) (said : Option Cause)
    (result : Result (Unit {0}) KeepFault) where
  -- it was put by trees that came of the file
  pub anew_by_trees : (trees : PageTrees P) → OfFile g gives PutsNothing path old (AsTrees trees)
      → IsAnewByTrees p g gives refuses foreign see trees path held said result
      → AnewReady p g gives refuses foreign see old path held said result
  anew_by_trees trees came put =
      anew_so p g gives refuses foreign see path held said result
      (Comes g gives PutsNothing (λ part. part ≡ AsTrees trees)) (OfFile g gives PutsNothing path old)
      (trees_so g gives PutsNothing PutsNothing (IsFirst gives path old) trees (λ a b h. h) came) put
