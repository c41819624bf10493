-- What is ready for a call, and what was made of it.
use Rattle.std.proofs.Common.{◌≡◌, inl, inr, ℕ, Bool, true, List, Option, Some, None, Result, Ok, Err}
use Rattle.std.proofs.Common.{IfOk, false, refl, sym, subst, ap, ◌∙◌}
use Rattle.sqlite_value.specs.Order.{Row}
use Rattle.sqlite_trees.specs.declared.store.Store.{Ghosts}
use Rattle.sqlite_trees.specs.declared.error.StoreError.{StoreError}
use Rattle.sqlite_pages.specs.declared.pages.Pages.{Ghosts as PagesGhosts}
use Rattle.sqlite.specs.Held.{Held}
use Rattle.keep_office.specs.declared.kept.KeepFault.{KeepFault}
use Rattle.keep_office.specs.declared.kept.KeepFault.TheVariants.{Failed}
use Rattle.keep_office.specs.Office.{Office}
use Rattle.keep_trees.specs.declared.page_trees.PageTrees.{PageTrees}
use Rattle.keep_database.specs.declared.proved.ProvedKeeper.{ProvedKeeper}
use Rattle.keep_files.specs.declared.cause.Cause.{Cause}
use Rattle.keep_files.specs.declared.kept.Kept.{Kept}
use Rattle.keep_files.specs.declared.kept.Kept.TheVariants.{Trees, Whole}
use Rattle.keep_files.specs.Causes.{cause_in_store}
use Rattle.keep_files.specs.Asked.{store_fault, IsToldOf}
use Rattle.keep_files.specs.Asked.{IsReady, IsReadyToRead, IsNotWhole, IsPut, IsPutBy, IsPutOver}
use Rattle.keep_files.specs.Asked.{IsAskedToPut, IsPutByTrees, PutsReady, IsReadyOf, IsUnreadOf, IsToldAs}
use Rattle.keep_files.specs.Asked.{HoldsFound, Misfits}
use Rattle.keep_files.specs.Openings.{Opening, Part, AsTrees, AsStore, AsWhole, IsAdopted, NotOpened}
use Rattle.keep_files.specs.Openings.{WasUnopened, IsUnput, IsToldBy, IfWhole}
use Rattle.keep_files.specs.Origins.{Comes, OfFile, IsFirst, PutsNothing, FoundOf, AdoptedOf, FoundAgain}
use Rattle.keep_files.proofs.OriginLaws.{adopted_so, adopted_from, lacks_from, unread_so, unput_so, file_so, trees_so}
use Rattle.keep_files.proofs.OriginLaws.{ready_trees_come}

module _ {T K : Type 0} (found : T → Type 0) (opened : K → Type 0) where
  -- a keeper that is ready is the one that is held, or was opened
  pub ready_whole : (old : Option (Kept T K)) (k : K) → IsReadyToRead found opened old (Whole k) → IsReady opened old k
  ready_whole None k h = h
  ready_whole (Some (Trees t)) k h = absurd (cc)
  ready_whole (Some (Whole j)) k h = cc

  -- where trees are ready, no keeper is held
  pub ready_trees : (old : Option (Kept T K)) (t : T) → IsReadyToRead found opened old (Trees t) → IsNotWhole old
  ready_trees None t h = tt
  ready_trees (Some (Trees u)) t h = tt
  ready_trees (Some (Whole k)) t h = absurd (cc)

-- a keeper that is ready is so where more is known of what was opened
pub ready_so : {T K : Type 0} (opened opened' : K → Type 0) (old : Option (Kept T K)) (k : K) →
    ((j : K) → opened j → opened' j) → IsReady opened old k → IsReady opened' old k
ready_so opened opened' None k more h = more k h
ready_so opened opened' (Some (Trees t)) k more h = more k h
ready_so opened opened' (Some (Whole j)) k more h = h

-- where nothing is held, no keeper is
pub none_held : {T K : Type 0} (old : Option (Kept T K)) → old ≡ None → IsNotWhole old
none_held None h = tt
none_held (Some k) h = absurd (cc)

-- where nothing is held, no trees are
pub holds_none : {T K : Type 0} (found : T → Type 0) (held : Option (Kept T K)) → held ≡ None → HoldsFound found held
holds_none found None h = tt
holds_none found (Some k) h = absurd (cc)

-- an error of a store was told
pub told_of : (said : Option Cause) (fault : KeepFault) (error : StoreError) → fault ≡ store_fault error →
    (fault ≡ Failed → said ≡ Some (cause_in_store error)) → IsToldOf said (Err fault) error
told_of said fault error is which = (ap Err is, λ failed. which (cc))

-- a put was done
pub told_done : (said : Option Cause) (u : Unit {0}) (answer : Result Bool StoreError) (done : Bool) →
    answer ≡ Ok done → done ≡ true → IsToldAs said answer (Ok u)
told_done said u answer done is so =
    subst (λ (r : Result Bool StoreError). IsToldAs said r (Ok u)) (sym (is ∙ ap Ok so)) refl

-- a put failed in the store
pub told_failed : (said : Option Cause) (fault : KeepFault) (answer : Result Bool StoreError) (error : StoreError) →
    answer ≡ Err error → fault ≡ store_fault error → (fault ≡ Failed → said ≡ Some (cause_in_store error)) →
    IsToldAs said answer (Err fault)
told_failed said fault answer error is told which =
    subst (λ (r : Result Bool StoreError). IsToldAs said r (Err fault)) (sym is) (told_of said fault error told which)

-- a put was not done
pub misfits_so : {S : Type 0} (see : S → S → Result Bool StoreError → Type 0) (before after : S)
    (answer : Result Bool StoreError) (done : Bool) → answer ≡ Ok done → done ≡ false → see before after answer →
    Misfits see before after
misfits_so see before after answer done is so h = subst (see before after) (is ∙ ap Ok so) h

-- a cause that is known was told
pub unopened_for : {A : Type 0} (knows : Cause → Type 0) (said : Option Cause) (result : Result A KeepFault)
    (cause : Cause) → knows cause → IsToldBy said result cause → WasUnopened knows said result
unopened_for knows said result cause known told = record { cause = cause; known = known; told = told }

-- a cause of which more is known was told
pub unopened_so : {A : Type 0} (knows knows' : Cause → Type 0) (said : Option Cause) (result : Result A KeepFault) →
    ((cause : Cause) → knows cause → knows' cause) → WasUnopened knows said result → WasUnopened knows' said result
unopened_so knows knows' said result more h = record { cause = h.cause; known = more h.cause h.known; told = h.told }

module _ {P S : Type 0} (g : Ghosts S) (writes : List (List ℕ × Row)) (asks : Office → Type 0)
    (next : Office → Office) (held : Option (Kept (PageTrees P) (ProvedKeeper S))) (said : Option Cause)
    (result : Result (Unit {0}) KeepFault) where
  -- a call was made of a keeper of which more is known
  pub made_so : (may may' : ProvedKeeper S → Type 0) → ((k : ProvedKeeper S) → may k → may' k)
      → IsPutBy g writes asks next held said result may → IsPutBy g writes asks next held said result may'
  made_so may may' more made = record {
    before = made.before;
    after = made.after;
    ready = more made.before made.ready;
    does = made.does;
    shown = made.shown;
    kept = made.kept;
    says = made.says;
  }

  -- a call was made of a keeper that is known to be fit
  pub made_of : (may : ProvedKeeper S → Type 0) (kept : ProvedKeeper S) → may kept
      → IsPutBy g writes asks next held said result (λ k. k ≡ kept) → IsPutBy g writes asks next held said result may
  made_of may kept fit = made_so (λ k. k ≡ kept) may (λ k is. subst may (sym is) fit)

module _ {P S : Type 0} (p : PagesGhosts P) (g : Ghosts S) (gives : Opening P S → Part P S → Type 0)
    (refuses : Opening P S → Cause → Type 0) (see : S → S → Result Bool StoreError → Type 0)
    (writes : List (List ℕ × Row)) (asks : Office → Type 0) (next : Office → Office) (path : List ℕ)
    (held : Option (Kept (PageTrees P) (ProvedKeeper S))) (said : Option Cause) (result : Result (Unit {0}) KeepFault)
    (comes : Part P S → Type 0) where
  -- a call was made of a store
  pub stored_so : (before after : S) (answer : Result Bool StoreError) → comes (AsStore before)
      → see before after answer → IsToldAs said answer result
      → HoldsFound (FoundAgain p gives after) held
      → IsPut p g gives refuses see writes asks next path held said result comes
  stored_so before after answer from stores told kept = inr (inl (record {
    before = before;
    after = after;
    answer = answer;
    from = from;
    stores = stores;
    told = told;
    kept = kept;
  }))

  -- nothing was opened to put
  pub not_put : (why : Cause) → held ≡ None → IsUnput (NotOpened g comes refuses) path why → IsToldBy said result why
      → IsPut p g gives refuses see writes asks next path held said result comes
  not_put why none known told = inr (inr (none, record { cause = why; known = known; told = told }))

  -- a call was made of a keeper on a connection
  pub put_over : (conn : Held S) → comes (AsWhole conn) → IsPutOver g writes asks next held said result conn
      → IsPut p g gives refuses see writes asks next path held said result comes
  put_over conn from (inl made) =
      inl
      (made_so g writes asks next held said result (IsAdopted g (λ c. c ≡ conn)) (AdoptedOf g comes)
      (adopted_from g (λ c. comes (AsWhole c)) conn from) made)
  put_over conn from (inr none) =
      inr
      (inr (
        none.0,
        unopened_so _ (IsUnput (NotOpened g comes refuses) path) said result
            (λ cause lacks. inl (inr (lacks_from g (λ c. comes (AsWhole c)) conn from cause lacks)))
            none.1,
      ))

  -- what was put by what came of something, was put by what came of where that came from
  pub put_ready : (comes' : Part P S → Type 0) → ((part : Part P S) → comes part → comes' part)
      → (old : Option (Kept (PageTrees P) (ProvedKeeper S))) → IsNotWhole old
      → IsPut p g gives refuses see writes asks next path held said result comes
      → IsAskedToPut p g gives refuses see writes asks next old path held said result comes'
  put_ready comes' more old none (inl made) =
      inl
      (made_so g writes asks next held said result (AdoptedOf g comes) (IsReady (AdoptedOf g comes') old)
      (λ k h. fresh old none k
      (adopted_so g (λ c. comes (AsWhole c)) (λ c. comes' (AsWhole c)) k (λ c. more (AsWhole c)) h)) made)
    where
      fresh : (was : Option (Kept (PageTrees P) (ProvedKeeper S))) → IsNotWhole was → (k : ProvedKeeper S) →
          AdoptedOf g comes' k → IsReady (AdoptedOf g comes') was k
      fresh None apart k h = h
      fresh (Some (Trees t)) apart k h = h
      fresh (Some (Whole j)) apart k h = absurd apart
  put_ready comes' more old none (inr (inl stored)) =
      inr (
        none,
        inl (record {
          before = stored.before;
          after = stored.after;
          answer = stored.answer;
          from = more (AsStore stored.before) stored.from;
          stores = stored.stores;
          told = stored.told;
          kept = stored.kept;
        }),
      )
  put_ready comes' more old none (inr (inr unopened)) =
      inr (
        none,
        inr (
          unopened.0,
          unopened_so _ (IsUnput (NotOpened g comes' refuses) path) said result
              (unput_so g refuses path comes comes' more) unopened.1,
        ),
      )

module _ {P S : Type 0} (p : PagesGhosts P) (g : Ghosts S) (gives : Opening P S → Part P S → Type 0)
    (refuses : Opening P S → Cause → Type 0) (see : S → S → Result Bool StoreError → Type 0)
    (writes : List (List ℕ × Row)) (asks : Office → Type 0) (next : Office → Office)
    (old : Option (Kept (PageTrees P) (ProvedKeeper S)))
    (path : List ℕ) (held : Option (Kept (PageTrees P) (ProvedKeeper S))) (said : Option Cause)
    (result : Result (Unit {0}) KeepFault) where
  -- it was made of the keeper that was ready
  pub asked_whole : (keeper : ProvedKeeper S) → IsReadyOf g gives p path old (Whole keeper)
      → IsPutBy g writes asks next held said result (λ k. k ≡ keeper)
      → PutsReady p g gives refuses see writes asks next old path held said result
  asked_whole keeper ready made =
      let puts = Misfits see in
      let opened = AdoptedOf g (OfFile g gives PutsNothing path old) in
      inl
      (made_of g writes asks next held said result (IsReady (AdoptedOf g (OfFile g gives puts path old)) old) keeper
      (ready_so opened (AdoptedOf g (OfFile g gives puts path old)) old keeper
      (λ k. adopted_so g (λ c. OfFile g gives PutsNothing path old (AsWhole c))
      (λ c. OfFile g gives puts path old (AsWhole c)) k (λ c. file_so g gives puts path old))
      (ready_whole (FoundOf p (OfFile g gives PutsNothing path old)) opened old keeper ready)) made)

  -- nothing was ready
  pub asked_unread : (why : Cause) → old ≡ None → held ≡ None → IsUnreadOf g gives refuses path old why
      → IsToldBy said result why → PutsReady p g gives refuses see writes asks next old path held said result
  asked_unread why was none unread told =
      let puts = Misfits see in
      inr (
        none_held old was,
        inr (
          none,
          record {
            cause = why;
            known =
                inl
                (unread_so g refuses path (OfFile g gives PutsNothing path old) (OfFile g gives puts path old)
                (λ part. file_so g gives puts path old) why unread);
            told = told;
          },
        ),
      )

  -- it was made by the trees that were ready
  pub asked_by_trees : (trees : PageTrees P) → IsReadyOf g gives p path old (Trees trees)
      → IsPutByTrees p g gives refuses see writes asks next trees path held said result
      → PutsReady p g gives refuses see writes asks next old path held said result
  asked_by_trees trees ready put =
      let puts = Misfits see in
      put_ready p g gives refuses see writes asks next path held said result
      (Comes g gives puts (λ part. part ≡ AsTrees trees)) (OfFile g gives puts path old)
      (trees_so g gives puts puts (IsFirst gives path old) trees (λ from to h. h)
      (file_so g gives puts path old (ready_trees_come g gives p path old trees ready)))
      old
      (ready_trees (FoundOf p (OfFile g gives PutsNothing path old)) (AdoptedOf g (OfFile g gives PutsNothing path old))
      old trees ready)
      put

-- what is so anyway is so of what was opened whole
pub whole_so : {T W E : Type 0} (so : Type 0) → so → (result : Result (Kept T W) E) → IfOk result (IfWhole so)
whole_so so h (Ok (Trees trees)) = tt
whole_so so h (Ok (Whole whole)) = h
whole_so so h (Err e) = tt
