-- What the last day tells of what may be put.
use Rattle.std.proofs.Common.{◌≡◌, inl, ℕ, ◌≤◌, Option, Some, None, Result, Ok, Err, refl, sym, ap, subst, ◌∙◌, arith}
use Rattle.keep_office.specs.declared.kept.PastRecord.{PastRecord}
use Rattle.keep_office.specs.declared.kept.KeepFault.{KeepFault}
use Rattle.keep_office.specs.Office.{Office, IsSound, day_before, last_day, last_from}
use Rattle.keep_office.specs.Kept.{HasNoDays}
use Rattle.keep_office.specs.Calls.{WhenRefused, Reads, Puts, SoundIfTold, IfTold}
use Rattle.serve_desk.specs.Tries.{Tries}
use Rattle.keep_office.proofs.SoundLaws.{none_kept}

-- the last day of the office that is told, where it was asked for
pub told_last : (before after : Option Office) (r : Result ℕ KeepFault) (last : ℕ) →
    Reads before after r (λ o n. n ≡ last_day o) → r ≡ Ok last → IfTold after (λ o. last_day o ≡ last)
told_last before None r last h e = tt
told_last None (Some p) r last h e = let bad : ⊥ = cc in absurd bad
told_last (Some o) (Some p) (Ok n) last h e = let same : n ≡ last = cc in ap last_day h.0 ∙ sym h.1 ∙ same
told_last (Some o) (Some p) (Err k) last h e = let bad : ⊥ = cc in absurd bad

-- where nothing comes before a history whose base is from 70, none is kept
no_past : (past : Option PastRecord) → day_before past ≡ 0 → ((p : PastRecord) → past ≡ Some p → 70 ≤ p.base) →
    past ≡ None
no_past None e h = refl
no_past (Some p) e h = absurd (omega (arith, e, h p refl))

-- where the last day is 0, no day and no history is kept
nothing_before : (o : Office) → IsSound o → last_day o ≡ 0 → HasNoDays o
nothing_before o sound zero =
    let none = none_kept o.days o.past zero sound.from_one in
    record {
      days = none;
      past =
          no_past o.past (subst (λ days. last_from days o.past ≡ 0) none zero) (λ p is. (sound.past p is).based);
    }

-- the same of the office that is told
pub told_nothing : (told : Option Office) (last : ℕ) → SoundIfTold told → IfTold told (λ o. last_day o ≡ last) →
    last ≡ 0 → IfTold told HasNoDays
told_nothing None last sound h zero = tt
told_nothing (Some o) last sound h zero = nothing_before o sound (h ∙ zero)

-- what may be put of the office that is told was put, or what a refused put leaves
pub tried : (w : WhenRefused) (before after : Option Office) (r : Result (Unit {0}) KeepFault) (next : Office → Office)
    (o : Office) (MayPut : Office → Type 0) → before ≡ Some o → IfTold before MayPut → Puts w before after r next
    → Tries w (MayPut o) next o after r
tried w before after r next o MayPut told may puts =
    inl (subst (λ t. IfTold t MayPut) told may, subst (λ t. Puts w t after r next) told puts)
