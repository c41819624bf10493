-- What a crash leaves of a put.
use Rattle.std.proofs.Common.{◌≡◌, ◌⊎◌, inl, inr, IsTrue, true, Result, Ok, Err, OnErr, sym, subst, ◌∙◌, arith}
use Rattle.sqlite_trees.specs.Tree.{Trees}
use Rattle.sqlite_trees.specs.declared.store.Store.{Ghosts}
use Rattle.sqlite.specs.Effect.{Database}
use Rattle.sqlite.specs.Held.{Held, state}
use Rattle.sqlite.specs.State.{State, HasCleanDisk, KeepsCommit, Survives}
use Rattle.sqlite.proofs.Callers.{survives_begin}
use Rattle.sqlite.proofs.StateLemmas.{survives_then}
use Rattle.keep_office.specs.Office.{Office}
use Rattle.keep_tables.specs.Stands.{HasOffice}
use Rattle.keep_tables.specs.Steps.{StaysInside, IsTreesOf, CommitsFor, CommitsNow}

-- where a crash before the call left the last commit, as of a connection that is open, one after it leaves the office
-- or the next one
pub left_after : (old new : State) (fits : Office → Type 0) (next : Office → Office) (o : Office) →
    ((db : Trees) → old.may_leave db → db ≡ old.committed.trees) → HasOffice old.committed o → fits o
    → Survives old new (CommitsFor fits next old.committed) → HasCleanDisk new → (db : Trees) → new.may_leave db →
    IsTreesOf o db ⊎ IsTreesOf (next o) db
left_after old new fits next o settled has fit survives clean db left = elim (survives.crash clean db left) [
  | inl before ↦ inl (old.committed, has, settled db before)
  | inr made ↦ inr (made o has fit)
]

-- a put after a step that left the last commit alone
pub put_survives : (old mid new : State) (fits : Office → Type 0) (next : Office → Office) →
    (HasCleanDisk mid → IsTrue mid.is_open → mid.now ≡ mid.committed) → (HasCleanDisk mid → KeepsCommit old mid)
    → Survives old mid (λ _. ⊥) → Survives mid new (CommitsNow fits next mid) →
    Survives old new (CommitsFor fits next old.committed)
put_survives old mid new fits next settled kept first last =
    survives_then old mid new (λ _. ⊥) (CommitsNow fits next mid) (CommitsFor fits next old.committed)
    (λ _ db none. absurd none)
    (λ clean db made o has fit.
    let early : HasCleanDisk mid = omega (arith, last.clean) in
    let now = settled early made.0 ∙ (kept early).committed made.0 in
    made.1 o (subst (λ (d : Database). HasOffice d o) (sym now) has) fit) first last

-- a transaction that was written and then committed
pub commit_survives : {S : Type 0} (g : Ghosts S) (old : Held S) (last end : State) (fits : Office → Type 0)
    (next : Office → Office) → Survives (state g (record old { in_transaction = true })) last (λ _. ⊥)
    → Survives last end (λ db. db ≡ last.now.trees) →
    (HasCleanDisk last → StaysInside (state g (record old { in_transaction = true })) last (Ok tt))
    → (HasCleanDisk last → (o : Office) → HasOffice (state g old).now o → fits o → HasOffice last.now (next o)) →
    Survives (state g old) end (CommitsNow fits next (state g old))
commit_survives g old last end fits next written committed inside wrote =
    survives_then (state g old) last end (λ _. ⊥) (λ db. db ≡ last.now.trees) (CommitsNow fits next (state g old))
    (λ _ db none. absurd none)
    (λ clean db is.
    let late : HasCleanDisk last = omega (arith, committed.clean) in
    ((inside late).was_open, λ o has fit. (last.now, wrote late o has fit, is)))
    (survives_begin g old last _ written) committed

-- what is refused stays as it was
pub stays : {T E : Type 0} (old new : State) (r : Result T E) (o : Office) → IsTrue new.is_open →
    HasOffice old.committed o → OnErr r (KeepsCommit old new) → OnErr r (HasOffice new.committed o)
stays old new (Ok x) o here has kept = tt
stays old new (Err e) o here has kept = subst (λ (d : Database). HasOffice d o) (sym (kept.committed here)) has
