-- What the clauses of a proved keeper say of a call.
use Rattle.std.proofs.Common.{◌≡◌, ℕ, List, true, false, true≢false, Result, Ok, Err, IfOk, IfErr, OnOk, OnErr, IsTrue}
use Rattle.std.proofs.Common.{refl, inr}
use Rattle.sqlite_trees.specs.declared.store.Store.{Ghosts}
use Rattle.sqlite.specs.State.{State, HasCleanDisk, KeepsCommit, Survives}
use Rattle.sqlite.proofs.StateLemmas.{survives_weaker}
use Rattle.keep_office.specs.declared.kept.KeepFault.{KeepFault}
use Rattle.keep_office.specs.declared.kept.KeepFault.TheVariants.{Failed, NoMemory}
use Rattle.keep_office.specs.Office.{Office}
use Rattle.keep_tables.specs.Stands.{HasOffice, StandsForOffice}
use Rattle.keep_tables.specs.Steps.{FitsAny}
use Rattle.sqlite_value.specs.Order.{Row}
use Rattle.keep_writes.specs.Causes.{WasRefusedIn, HasCauseOf}
use Rattle.keep_writes.proofs.GrowLaws.{still_stands}
use Rattle.keep_database.specs.Gives.{GivesUnless, WantsMemory}
use Rattle.keep_database.specs.Looks.{CommitsFrom, TellsRefusal}
use Rattle.keep_database.specs.declared.proved.ProvedKeeper.{ProvedKeeper}
use Rattle.keep_database.proofs.StandLaws.{ok_gives}
use Rattle.keep_files.specs.Does.{Does, CommitsIf, PutFails, ReadFails}

-- what holds anyway holds of either end
either : {T : Type 0} (r : Result T KeepFault) (P : Type 0) → P → OnOk r P × OnErr r P
either (Ok x) P p = (p, tt)
either (Err e) P p = (tt, p)

-- why a call that reads failed, which may want memory for what it takes up
pub read_fails : {S T : Type 0} (g : Ghosts S) (takes : Office → Type 0) (old new : ProvedKeeper S) (o : Office)
    (r : Result T KeepFault) → new.refused ≡ old.refused → (r ≡ Err Failed → WasRefusedIn g old.conn new.conn)
    → (r ≡ Err NoMemory → WantsMemory g old.conn new.conn (takes o)) → IfErr r (ReadFails g takes old new o)
read_fails g takes old new o (Ok x) quiet why memory = tt
read_fails g takes old new o (Err Failed) quiet why memory = (why refl, quiet)
read_fails g takes old new o (Err NoMemory) quiet why memory = (memory refl, quiet)

-- why a call that puts failed, and what is told of it
pub put_fails : {S T : Type 0} (g : Ghosts S) (writes : List (List ℕ × Row)) (old new : ProvedKeeper S)
    (r : Result T KeepFault) → IfErr r (HasCauseOf g writes old.conn new.conn)
    → IfErr r (λ fault. TellsRefusal g writes old.conn new.conn fault old.refused new.refused)
    → IfErr r (PutFails g writes old new)
put_fails g writes old new (Ok x) why told = tt
put_fails g writes old new (Err f) why told = (why, told)

-- a call that reads
pub read_does : {T X : Type 0} (R : Type 0) (C : Office → KeepFault → Type 0) (see : T → X) (y : Office → X)
    (old new : State) (r : Result T KeepFault) → (HasCleanDisk new → KeepsCommit old new)
    → (HasCleanDisk new → (o : Office) → StandsForOffice old.committed o → GivesUnless R see r (y o)) →
    (HasCleanDisk new → (o : Office) → StandsForOffice old.committed o → IfErr r (C o)) →
    Survives old new (λ _. ⊥) → (HasCleanDisk new → OnOk r (IsTrue new.is_open))
    → Does C false FitsAny (λ o x. see x ≡ y o) (λ o. o) old new r
read_does R C see y old new r kept gives because survives opened = record {
  kept = λ _ clean. kept clean;
  answers = λ clean o stands fit. ok_gives R see r (y o) (gives clean o stands);
  opened = opened;
  leaves = λ clean here o stands fit. either r _ (still_stands old new o here stands (kept clean));
  because = because;
  crash =
      survives_weaker old new (λ _. ⊥) (CommitsIf false FitsAny (λ o. o) old.committed) (λ _ db none. absurd none)
      survives;
}

-- what is asked of nothing
any_ok : {T : Type 0} (r : Result T KeepFault) → IfOk r (λ _. Unit {0})
any_ok (Ok x) = tt
any_ok (Err e) = tt

-- what follows where a call went well
done_then : {T : Type 0} (r : Result T KeepFault) (P Q : Type 0) → OnOk r P → (P → Q) → OnOk r Q
done_then (Ok x) P Q p f = f p
done_then (Err e) P Q p f = tt

-- a call that writes
pub put_does : (R : Office → KeepFault → Type 0) (asks : Office → Type 0) (next : Office → Office) (old new : State)
    (r : Result (Unit {0}) KeepFault)
    → (HasCleanDisk new → IsTrue new.is_open → (o : Office) → StandsForOffice old.committed o → asks o →
    OnOk r (HasOffice new.committed (next o)) × OnErr r (StandsForOffice new.committed o))
    → (HasCleanDisk new → (o : Office) → StandsForOffice old.committed o → IfErr r (R o)) →
    Survives old new (CommitsFrom asks next old.committed) → (HasCleanDisk new → OnOk r (IsTrue new.is_open))
    → Does R true asks (λ o u. Unit {0}) next old new r
put_does R asks next old new r put because survives opened = record {
  kept = λ wrong. absurd (true≢false wrong);
  answers = λ clean o stands fit. any_ok r;
  opened = opened;
  leaves = λ clean here o stands fit.
      let both = put clean here o stands fit in (
        done_then r (HasOffice new.committed (next o)) (StandsForOffice new.committed (next o)) both.0
            (λ has. inr (inr has)),
        both.1,
      );
  because = because;
  crash =
      survives_weaker old new (CommitsFrom asks next old.committed) (CommitsIf true asks next old.committed)
      (λ _ db commits. (refl, commits)) survives;
}
