-- What calls leave of a database that stands for an office.
use Rattle.std.proofs.Common.{◌≡◌, ◌≢◌, inl, inr, IsTrue, [], ◌∷◌, pos, List, Result, Ok, Err, IsErrAnd, OnOk, OnErr}
use Rattle.std.proofs.Common.{IfOk, sym, ap, subst, ◌∙◌, arith}
use Rattle.sqlite_value.specs.declared.value.Value.TheVariants.{Int}
use Rattle.sqlite_value.specs.Order.{Row}
use Rattle.sqlite_trees.specs.declared.store.Store.{Ghosts}
use Rattle.sqlite_trees.specs.Tree.{Trees}
use Rattle.sqlite_schema.specs.declared.schema.Schema.{Schema}
use Rattle.sqlite_resolve.specs.declared.compiled.Compiled.{Compiled}
use Rattle.sqlite_resolve.specs.declared.error.CompileError.{CompileError}
use Rattle.sqlite_resolve.specs.declared.error.CompileError.TheVariants.{NoSuchTable}
use Rattle.sqlite.specs.Effect.{Database}
use Rattle.sqlite.specs.Held.{Held, state}
use Rattle.sqlite.specs.Listing.{understood}
use Rattle.sqlite.specs.State.{State, HasCleanDisk, KeepsCommit, Survives, Shown}
use Rattle.sqlite.proofs.StateLemmas.{survives_then}
use Rattle.keep_office.specs.declared.kept.KeepFault.{KeepFault}
use Rattle.keep_office.specs.declared.kept.KeepFault.TheVariants.{Failed, NoMemory}
use Rattle.keep_office.specs.Office.{Office}
use Rattle.keep_tables.specs.Layout.{no_tables, old_tables}
use Rattle.keep_tables.specs.Texts.{find_version}
use Rattle.keep_tables.specs.Stands.{HasOffice, StandsForOffice, contents_of}
use Rattle.keep_tables.specs.Steps.{CommitsFor}
use Rattle.keep_tables.proofs.MigrationLaws.{version_shown}
use Rattle.keep_tables.proofs.QueryLaws.{no_version, no_old_version}
use Rattle.keep_database.specs.Gives.{GivesUnless, Gives}
use Rattle.keep_database.specs.Looks.{ShowsCommitted, ShowsSecond, HasSecond, CommitsFrom}

-- a query that is not understood shows nothing
unshown : (schema : Schema) (sql : List _) (params : Row) (old new : State) (rows : List Row) →
    understood schema sql ≡ Err NoSuchTable → old.now.schema ≡ schema → ¬ Shown sql params old new rows
unfolding Shown
unshown schema sql params old new rows none is h =
    let bad : ◌≡◌ {A = Result Compiled CompileError} (Ok h.0) (Err NoSuchTable) =
    sym h.1.is ∙ ap (λ (s : Schema). understood s sql) is ∙ none in cc

module _ {S : Type 0} (g : Ghosts S) (old new : Held S) (found : List Row)
    (s : ShowsCommitted g find_version [] old new found) where
  -- where the version is shown, there are six tables
  pub versioned : (o : Office) → StandsForOffice (state g old).committed o → HasOffice (state g old).committed o
  versioned o (inl nothing) =
      absurd (unshown no_tables find_version [] (state g s.before) (state g new) found no_version
      (ap (λ (d : Database). d.schema) s.now ∙ nothing.0) s.shown)
  versioned o (inr (inl old_has)) =
      absurd (unshown old_tables find_version [] (state g s.before) (state g new) found no_old_version
      (ap (λ (d : Database). d.schema) s.now ∙ old_has.tables.schema) s.shown)
  versioned o (inr (inr has)) = has

  -- and the version is 2
  pub second : (o : Office) → StandsForOffice (state g old).committed o → found ≡ (Int (pos 2) ∷ []) ∷ []
  second o stands =
      let has = versioned o stands in
      version_shown (contents_of o) (state g s.before) (state g new) found
      (subst (λ (db : Database). HasOffice db o) (sym s.now) has).tables s.shown

-- a failure that is handed on is that of the call
pub not_failed : {T U : Type 0} (r : Result U KeepFault) (e : KeepFault) → IsErrAnd r (λ f. f ≡ e) → r ≡ Err Failed →
    ◌≡◌ {A = Result T KeepFault} (Err e) (Err Failed)
not_failed (Ok u) e same failed = absurd same
not_failed (Err f) e same failed = let it : f ≡ Failed = cc in ap Err (sym same ∙ it)

-- a put after a step that keeps what is committed
pub put_stands : {T E : Type 0} (old mid new : State) (r : Result T E) (P : Type 0) (o : Office) → IsTrue new.is_open →
    mid.committed ≡ old.committed → StandsForOffice old.committed o → OnOk r P → OnErr r (KeepsCommit mid new)
    → OnOk r P × OnErr r (StandsForOffice new.committed o)
put_stands old mid new (Ok x) P o here same stands put kept = (put, tt)
put_stands old mid new (Err e) P o here same stands put kept =
    (tt, subst (λ (db : Database). StandsForOffice db o) (sym (kept.committed here ∙ same)) stands)

-- what a crash leaves of a put after such a step
pub put_lasts : (old mid new : State) (fits : Office → Type 0) (next : Office → Office) →
    (HasCleanDisk mid → (o : Office) → StandsForOffice old.committed o → IsTrue mid.is_open × HasOffice old.committed o)
    → (HasCleanDisk mid → KeepsCommit old mid)
    → Survives old mid (λ _. ⊥) → Survives mid new (CommitsFor fits next mid.committed) →
    Survives old new (CommitsFrom fits next old.committed)
put_lasts old mid new fits next there kept first last =
    survives_then old mid new (λ _. ⊥) (CommitsFor fits next mid.committed) (CommitsFrom fits next old.committed)
    (λ _ db none. absurd none)
    (λ clean db made o stands fit.
    let early : HasCleanDisk mid = omega (arith, last.clean) in
    let h = there early o stands in
    made o (subst (λ (d : Database). HasOffice d o) (sym ((kept early).committed h.0)) h.1) fit) first last

-- a crash of a put leaves something else only where version 2 was shown before it
pub spared_after : {S : Type 0} (g : Ghosts S) (old mid new : Held S) (Q : Trees → Type 0) →
    (HasCleanDisk (state g mid) → ShowsSecond g old mid) → Survives (state g old) (state g mid) (λ _. ⊥) →
    Survives (state g mid) (state g new) Q → Survives (state g old) (state g new) (λ _. HasSecond g old)
spared_after g old mid new Q shows first last =
    survives_then (state g old) (state g mid) (state g new) (λ _. ⊥) Q (λ _. HasSecond g old)
    (λ _ db none. absurd none)
    (λ clean db made.
    let early : HasCleanDisk (state g mid) = omega (arith, last.clean) in
    record { now = mid; shows = shows early }) first last

-- what is given without a failure is the answer
pub ok_gives : {T X : Type 0} (R : Type 0) (see : T → X) (r : Result T KeepFault) (x : X) → GivesUnless R see r x →
    IfOk r (λ t. see t ≡ x)
ok_gives R see (Ok t) x h = h
ok_gives R see (Err e) x h = tt

-- what holds anyway
pub always : {T E : Type 0} (r : Result T E) (P : Type 0) → P → OnOk r P
always (Ok x) P p = p
always (Err e) P p = tt

-- an error of a call that gives what is there is no failure
pub gives_no_failure : {T X U : Type 0} (see : T → X) (r : Result U KeepFault) (e : KeepFault) (x : X) →
    IsErrAnd r (λ f. f ≡ e) → Gives {T = T} see (Err e) x → r ≢ Err Failed
gives_no_failure see (Ok u) e x same h failed = absurd same
gives_no_failure see (Err f) NoMemory x same h failed = let it : f ≡ Failed = cc in let clash : NoMemory ≡ Failed =
    sym same ∙ it in absurd (cc)
gives_no_failure see (Err f) Failed x same h failed = absurd h

-- a call that ends open where it is done is done, whatever asks that it be open
pub done_open : {T E : Type 0} (r : Result T E) (A P Q : Type 0) → OnOk r A → (A → OnOk r P × Q) → OnOk r P
done_open (Ok x) A P Q a f = (f a).0
done_open (Err e) A P Q a f = tt
