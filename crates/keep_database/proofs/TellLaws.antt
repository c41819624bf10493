-- What a keeper on a steady store tells after a call.
use Rattle.std.proofs.Common.{◌≡◌, Bool, true, false, IsTrue, Option, Some, None, Result, Ok, Err, IsOk, OnOk, OnErr}
use Rattle.std.proofs.Common.{MatchResult, refl, ◌↔◌, ◌∙◌, ap}
use Rattle.std.proofs.Common.{inr, sym, subst}
use Rattle.sqlite.specs.Effect.{Database}
use Rattle.sqlite.specs.State.{State, HasCleanDisk, KeepsCommit}
use Rattle.keep_office.specs.declared.kept.KeepFault.{KeepFault}
use Rattle.keep_office.specs.Calls.{Reads, Puts, AllOrNothing, IfTold}
use Rattle.keep_office.specs.Office.{Office}
use Rattle.keep_tables.specs.Steps.{FitsAny}
use Rattle.keep_tables.specs.Stands.{HasOffice, StandsForOffice, StandsForNone}
use Rattle.keep_tables.specs.Told.{told_in}
use Rattle.keep_tables.proofs.StandLaws.{reads_told, puts_told, told_if_stands}
use Rattle.keep_database.specs.Gives.{GivesUnless}
use Rattle.keep_writes.proofs.GrowLaws.{still_stands}
use Rattle.keep_database.proofs.StandLaws.{ok_gives}

-- a call that keeps what is committed, and gives what it stands for, reads
pub reads_tell : {T X : Type 0} (steady : Bool) (old new : State) (R : Type 0) (see : T → X) (r : Result T KeepFault)
    (y : Office → X) → (steady ≡ true → IsTrue new.is_open) → (steady ≡ true → HasCleanDisk new)
    → (HasCleanDisk new → KeepsCommit old new) →
    (HasCleanDisk new → (o : Office) → StandsForOffice old.committed o → GivesUnless R see r (y o))
    → Reads (told_in steady old.committed) (told_in steady new.committed) r (λ o x. see x ≡ y o)
reads_tell steady old new R see r y opens clean kept gives =
    reads_told steady old.committed new.committed r (λ o x. see x ≡ y o)
    (λ is none. subst StandsForNone (sym ((kept (clean is)).committed (opens is))) none)
    (λ is o stands. (
      still_stands old new o (opens is) stands (kept (clean is)),
      ok_gives R see r (y o)
          (gives (clean is) o stands),
    ))

-- what is asked of the office that is told holds of the one that a database stands for
fits_if_told : (db : Database) (fits : Office → Type 0) (o : Office) → IfTold (told_in true db) fits →
    StandsForOffice db o → fits o
fits_if_told db fits o asked stands = subst (λ (t : Option Office). IfTold t fits) (told_if_stands db o stands) asked

-- a put is all or nothing
pub puts_tell : (steady : Bool) (old new : State) (r : Result (Unit {0}) KeepFault) (fits : Office → Type 0)
    (next : Office → Office) → (steady ≡ true → IsTrue new.is_open) → (steady ≡ true → HasCleanDisk new)
    → IfTold (told_in steady old.committed) fits
    → (HasCleanDisk new → IsTrue new.is_open → (o : Office) → StandsForOffice old.committed o → fits o →
    OnOk r (HasOffice new.committed (next o)) × OnErr r (StandsForOffice new.committed o))
    → Puts AllOrNothing (told_in steady old.committed) (told_in steady new.committed) r next
puts_tell steady old new r fits next opens clean asked put =
    puts_told steady old.committed new.committed r next
    (λ is o stands.
    let fit = fits_if_told old.committed fits o (subst (λ (b : Bool). IfTold (told_in b old.committed) fits) is asked)
    stands in
    let both = put (clean is) (opens is) o stands fit in (
      stood r (HasOffice new.committed (next o)) (StandsForOffice new.committed (next o)) both.0 (λ has. inr (inr has)),
      both.1,
    ))
  where
    stood : (s : Result (Unit {0}) KeepFault) (P Q : Type 0) → OnOk s P → (P → Q) → OnOk s Q
    stood (Ok u) P Q p f = f p
    stood (Err e) P Q p f = tt

-- any office fits
pub any_fits : (steady : Bool) (db : Database) → IfTold (told_in steady db) FitsAny
any_fits steady db = go (told_in steady db)
  where
    go : (t : Option Office) → IfTold t FitsAny
    go None = tt
    go (Some o) = tt

-- a call that is done or refused stands for the office either way
pub either_stands : {T E : Type 0} (r : Result T E) (db : Database) (o : Office) → OnOk r (HasOffice db o)
    × OnErr r (StandsForOffice db o) → StandsForOffice db o
either_stands (Ok x) db o h = inr (inr h.0)
either_stands (Err e) db o h = h.1

-- what holds of a call that is done
pub done_has : {T E : Type 0} (r : Result T E) (P : Type 0) → IsOk r → OnOk r P → P
done_has (Ok x) P done h = h
done_has (Err e) P done h = absurd (cc)

-- what holds of a call that is refused
pub undone_has : {T E : Type 0} (r : Result T E) (P : Type 0) → ¬ IsOk r → OnErr r P → P
undone_has (Ok x) P wrong h = absurd (wrong refl)
undone_has (Err e) P wrong h = h

-- a call that is done has what it has then
pub made_has : {T E : Type 0} (r : Result T E) (P Q : Type 0) → IsOk r → OnOk r P × OnErr r Q → P
made_has (Ok x) P Q done h = h.0
made_has (Err e) P Q done h = absurd (cc)

-- where all was made, no error is told
pub made_quiet : {E : Type 0} (r : Result (Unit {0}) E) (told : Option E) → IsOk r →
    MatchResult r (λ _. told ≡ None) (λ e. told ≡ Some e) → told ≡ None
made_quiet (Ok x) told done h = h
made_quiet (Err e) told done h = absurd (cc)

-- where no error is told, all was made
pub quiet_made : {E : Type 0} (r : Result (Unit {0}) E) (told : Option E) → told ≡ None →
    MatchResult r (λ _. told ≡ None) (λ e. told ≡ Some e) → IsOk r
quiet_made (Ok x) told none h = refl
quiet_made (Err e) told none h = let bad : ⊥ = cc in absurd bad

-- an error is told where it is the call's
pub same_told : {E : Type 0} (r : Result (Unit {0}) E) (told : Option E) (e : E) →
    MatchResult r (λ _. told ≡ None) (λ f. told ≡ Some f) → (r ≡ Err e) ↔ (told ≡ Some e)
same_told (Ok x) told e h = (λ is. absurd (cc), λ is. absurd (let wrong = sym h ∙ is in cc))
same_told (Err f) told e h =
    (λ is. let same : f ≡ e = cc in h ∙ ap Some same, λ is. let both = sym h ∙ is in let same : f ≡ e = cc in ap Err same)

-- where nothing is told, anything that is asked of it holds
pub untold_fits : (steady : Bool) → steady ≡ false → (db : Database) (fits : Office → Type 0) →
    IfTold (told_in steady db) fits
untold_fits steady is db fits = subst (λ (b : Bool). IfTold (told_in b db) fits) (sym is) tt
