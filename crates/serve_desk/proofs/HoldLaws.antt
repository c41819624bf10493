-- What is told at a place that is held.
use Rattle.std.proofs.Common.{◌≡◌, ◌⊎◌, ℕ, Bool, true, false, inl, inr, Option, Some, None, Result, Err, IfOk}
use Rattle.std.proofs.Common.{refl, sym, subst}
use Rattle.keep_office.specs.declared.kept.KeepFault.{KeepFault}
use Rattle.keep_office.specs.declared.kept.KeepFault.TheVariants.{NoMemory}
use Rattle.keep_office.specs.Office.{Office, IsSound}
use Rattle.keep_office.specs.Calls.{WhenRefused, PutsNothing, FailsLate, AllOrNothing, Reads, Puts, SoundIfTold}
use Rattle.keep_office.specs.Calls.{PutsAsPlanned}

-- an office that is told is sound
pub sound_of : (t : Option Office) → SoundIfTold t → (o : Office) → t ≡ Some o → IsSound o
sound_of None sound o is = let bad : ⊥ = cc in absurd bad
sound_of (Some p) sound o is = let same : p ≡ o = cc in subst IsSound same sound

-- and so what is told is, where each office is
pub sound_if : (t : Option Office) → ((o : Office) → t ≡ Some o → IsSound o) → SoundIfTold t
sound_if None all = tt
sound_if (Some o) all = all o refl

-- what is told at the last place is sound, where what the keeper tells is, settled or not
pub sound_in : (t now : Option Office) (settled : Bool) → (settled ≡ true → now ≡ t) →
    (settled ≡ false → (o : Office) → t ≡ Some o → IsSound o) → SoundIfTold now → SoundIfTold t
sound_in t now true here behind sound = subst SoundIfTold (here refl) sound
sound_in t now false here behind sound = sound_if t (behind refl)

-- a call that reads of the keeper is one of who holds the place where it is
pub reads_stay : {T : Type 0} (t before after : Option Office) (r : Result T KeepFault) (P : Office → T → Type 0) →
    before ≡ t → Reads before after r P → Reads t t r P
reads_stay None None after r P e h = refl
reads_stay None (Some p) after r P e h = let bad : ⊥ = cc in absurd bad
reads_stay (Some o) None after r P e h = let bad : ⊥ = cc in absurd bad
reads_stay (Some o) (Some p) None r P e h = absurd h
reads_stay (Some o) (Some p) (Some q) r P e h = let same : p ≡ o = cc in
    (refl, subst (λ s. IfOk r (λ x. P s x)) same h.1)

-- a call that reads and fails leaves what is told
pub reads_failed : {T : Type 0} (t : Option Office) (e : KeepFault) (P : Office → T → Type 0) → Reads t t (Err e) P
reads_failed None e P = refl
reads_failed (Some o) e P = (refl, tt)

-- a put that finds no memory leaves what is told
pub puts_none : (w : WhenRefused) (t : Option Office) (next : Office → Office) → Puts w t t (Err NoMemory) next
puts_none w None next = tt
puts_none PutsNothing (Some o) next = refl
puts_none FailsLate (Some o) next = refl
puts_none AllOrNothing (Some o) next = inl refl

-- a put of the keeper, and then the place of it, is one of who holds the place where it was; or no memory was found
pub puts_on : (w : WhenRefused) (t before after now : Option Office) (answer r : Result (Unit {0}) KeepFault)
    (next : Office → Office) → before ≡ t → Puts w before after answer next →
    ((r ≡ answer) × (now ≡ after)) ⊎ ((r ≡ Err NoMemory) × (now ≡ t)) → Puts w t now r next
puts_on w t before after now answer r next here puts (inl (same, told)) =
    subst (λ a. Puts w t now a next) (sym same)
    (subst (λ s. Puts w t s answer next) (sym told) (subst (λ s. Puts w s after answer next) here puts))
puts_on w t before after now answer r next here puts (inr (same, told)) =
    subst (λ a. Puts w t now a next) (sym same) (subst (λ s. Puts w t s (Err NoMemory) next) (sym told) (puts_none w t next))

-- where it is not told which calls fail, each put goes as planned
pub planned_none : (w : WhenRefused) (after : Option (ℕ → Bool)) (r : Result (Unit {0}) KeepFault) →
    PutsAsPlanned w None after r
planned_none PutsNothing after r = tt
planned_none FailsLate after r = tt
planned_none AllOrNothing after r = tt
