-- What is kept of a history, and what is answered where one or a day is kept.
use Rattle.std.proofs.Common.{◌≡◌, ℕ, ◌<◌, ◌==◌, inr, Bool, true, false, cond, List, [], ◌∷◌, Option, Some}
use Rattle.std.proofs.Common.{None, Result, Ok, Err, refl, sym, ap, subst, ◌∙◌, arith}
use Rattle.std.specs.Str.{bytes_eq}
use Rattle.std.proofs.lemmas.Bool.{cond-true, cond-false}
use Rattle.road_time.specs.declared.day.Limits.{Limits}
use Rattle.road_time.specs.declared.day.SpentRow.{SpentRow}
use Rattle.road_time.specs.Form.{Late, TooOften, Vehicles}
use Rattle.road_digest.specs.declared.digest.Digest.{Digest}
use Rattle.keep_office.specs.declared.kept.DayRecord.{DayRecord}
use Rattle.keep_office.specs.declared.kept.PastRecord.{PastRecord}
use Rattle.keep_office.specs.declared.kept.KeepFault.{KeepFault}
use Rattle.keep_office.specs.Office.{Office, IsSound, last_day, last_from}
use Rattle.keep_office.specs.Kept.{HasNoDays, with_past}
use Rattle.road_digest.specs.Digests.{found_digest}
use Rattle.keep_office.specs.PastReads.{PastFault, OfLine, past_reads, past_record, past_kept, next_past}
use Rattle.keep_office.specs.Calls.{WhenRefused, Leaves, Puts, Reads, SoundIfTold, IfTold}
use Rattle.day_past.specs.declared.outcomes.PastCause.{PastCause}
use Rattle.day_past.specs.declared.outcomes.PastOutcome.TheVariants.{Stored, Already, Row, OtherBase, Differs}
use Rattle.day_past.specs.declared.outcomes.PastOutcome.TheVariants.{PastLate}
use Rattle.day_past.specs.Causes.{IsCause, past_cause_of}
use Rattle.day_past.specs.Imports.{PastAnswer, unchanged, past_compared, past_again, past_read, past_new, DoesPast}
use Rattle.day_past.specs.Imports.{HaltsPast}
use Rattle.keep_office.proofs.SoundLaws.{none_kept}

-- the cause of a fault is one
pub cause_is : (fault : PastFault) (cause : PastCause) → IsCause fault cause → cause ≡ past_cause_of fault
cause_is (OfLine (Late a b)) cause h = absurd h
cause_is (OfLine (TooOften a b)) cause h = absurd h
cause_is (OfLine (Vehicles n)) cause h = absurd h
cause_is _ cause h = h

-- no day and no history is kept
pub has_no_days : (o : Office) → IsSound o → o.past ≡ None → last_day o ≡ 0 → HasNoDays o
has_no_days o sound none last = record { days = none_kept o.days o.past last sound.from_one; past = none }

-- the same of an office that is told
pub told_no_days : (told : Option Office) → SoundIfTold told → IfTold told (λ o. o.past ≡ None) →
    IfTold told (λ o. last_day o ≡ 0) → IfTold told HasNoDays
told_no_days None sound none last = tt
told_no_days (Some o) sound none last = has_no_days o sound none last

module _ (base : ℕ) (limits : Limits) (bytes : List ℕ) (o : Office) where
  -- a day is kept and no history
  late_from : (days : List DayRecord) (past : Option PastRecord) → past ≡ None → 0 < last_from days past →
      past_new days base limits bytes o ≡ unchanged (PastLate (last_day o)) o
  late_from [] None e h = absurd (omega (arith, h))
  late_from [] (Some p) e h = let bad : ⊥ = cc in absurd bad
  late_from (d ∷ ds) past e h = refl

  pub late_new : o.past ≡ None → 0 < last_day o →
      past_new o.days base limits bytes o ≡ unchanged (PastLate (last_day o)) o
  late_new none some = late_from o.days o.past none some

  -- nothing is kept
  pub first_new : o.days ≡ [] →
      past_new o.days base limits bytes o ≡ past_read base bytes (past_reads bytes base limits).rows
      (past_reads bytes base limits).refused o
  first_new none = ap (λ days. past_new days base limits bytes o) none

-- a history that is kept was compared, or is of another base
again_does : (w : WhenRefused) (a : PastAnswer) (o : Office) (kept : PastRecord) (k f : Digest) (b : Bool) →
    cond b (Already kept) (Differs k f) ≡ a.outcome → o ≡ a.office →
    DoesPast w a o (Some o) (cond b (Already kept) (Differs k f))
again_does w a o kept k f true e same = record { outcome_is = e; kept = ap Some same }
again_does w a o kept k f false e same = record { outcome_is = e; kept = ap Some same }

-- a history of this base
pub compared_does : (w : WhenRefused) (kept : PastRecord) (base : ℕ) (bytes : List ℕ) (o : Office) (found : Digest) →
    (kept.base == base) ≡ true → found ≡ found_digest bytes kept.bytes
    → DoesPast w (unchanged (past_again kept base bytes) o) o (Some o) (past_compared kept found)
compared_does w kept base bytes o found same e =
    again_does w (unchanged (past_again kept base bytes) o) o kept kept.digest found
    (bytes_eq found.bytes kept.digest.bytes) (ap (past_compared kept) e ∙ sym (cond-true _ _ _ same)) refl

-- a history of another base
pub other_does : (w : WhenRefused) (kept : PastRecord) (base : ℕ) (bytes : List ℕ) (o : Office) →
    (kept.base == base) ≡ false → DoesPast w (unchanged (past_again kept base bytes) o) o (Some o) (OtherBase kept.base)
other_does w kept base bytes o other = record { outcome_is = sym (cond-false _ _ _ other); kept = refl }

-- a put that was done
pub puts_ok : (w : WhenRefused) (before after : Option Office) (u : Unit {0}) (next : Office → Office) (o : Office) →
    Puts w before after (Ok u) next → before ≡ Some o → after ≡ Some (next o)
puts_ok w None after u next o h e = let bad : ⊥ = cc in absurd bad
puts_ok w (Some p) None u next o h e = absurd h
puts_ok w (Some p) (Some q) u next o h e = let same : p ≡ o = cc in ap Some (h ∙ ap next same)

-- a put that was refused
pub puts_err : (w : WhenRefused) (before after : Option Office) (k : KeepFault) (next : Office → Office) (o : Office) →
    Puts w before after (Err k) next → before ≡ Some o → (q : Office) × (after ≡ Some q) × Leaves w k q o (next o)
puts_err w None after k next o h e = let bad : ⊥ = cc in absurd bad
puts_err w (Some p) None k next o h e = absurd h
puts_err w (Some p) (Some q) k next o h e = let same : p ≡ o = cc in
    (q, refl, subst (λ s. Leaves w k q s (next s)) same h)

module _ (w : WhenRefused) (base : ℕ) (bytes : List ℕ) (rows : List SpentRow) (o : Office) where
  -- what is put is what is kept of the history
  next_is : (past : PastRecord) (kept : List SpentRow) → past ≡ past_record base bytes rows → kept ≡ past_kept rows →
      with_past past kept o ≡ next_past base bytes rows o
  next_is past kept e f = cc

  -- a history was put
  pub stored_does : (past : PastRecord) (kept : List SpentRow) (after : Option Office) →
      past ≡ past_record base bytes rows → kept ≡ past_kept rows → after ≡ Some (with_past past kept o)
      → DoesPast w (past_read base bytes rows None o) o after (Stored past)
  stored_does past kept after e f h = record { outcome_is = ap Stored e; kept = h ∙ ap Some (next_is past kept e f) }

  -- its put was refused
  pub refused_does : (k : KeepFault) (past : PastRecord) (kept : List SpentRow) (after : Option Office) →
      past ≡ past_record base bytes rows → kept ≡ past_kept rows → (q : Office) × (after ≡ Some q)
      × Leaves w k q o (with_past past kept o)
      → HaltsPast w k (past_read base bytes rows None o) o after
  refused_does k past kept after e f h = inr (h.0, h.1, subst (λ n. Leaves w k h.0 o n) (next_is past kept e f) h.2)

  -- a line was refused
  pub row_does : (refused : Option (ℕ × PastFault)) (line : ℕ) (cause : PastCause) (fault : PastFault) →
      refused ≡ Some (line, fault) → IsCause fault cause →
      DoesPast w (past_read base bytes rows refused o) o (Some o) (Row line cause)
  row_does refused line cause fault e h = record {
    outcome_is = ap (Row line) (cause_is fault cause h) ∙ sym (ap (λ r. (past_read base bytes rows r o).outcome) e);
    kept = ap Some (sym (ap (λ r. (past_read base bytes rows r o).office) e));
  }

-- the last day of the office that is told, where it was asked for and is 0
pub told_last : (before after : Option Office) (r : Result ℕ KeepFault) (last : ℕ) →
    Reads before after r (λ o n. n ≡ last_day o) → r ≡ Ok last → last ≡ 0 → IfTold after (λ o. last_day o ≡ 0)
told_last before None r last h e zero = tt
told_last None (Some p) r last h e zero = let bad : ⊥ = cc in absurd bad
told_last (Some o) (Some p) (Ok n) last h e zero = let same : n ≡ last = cc in ap last_day h.0 ∙ sym h.1 ∙ same ∙ zero
told_last (Some o) (Some p) (Err k) last h e zero = let bad : ⊥ = cc in absurd bad
