-- Imports of one day, one after another.
use Rattle.std.proofs.Common.{◌≡◌, ◌⊎◌, inl, inr, ⊎_elim, ℕ, ◌==◌, Bool, true, false, nat_le, List, [], ◌∷◌, ◌++◌}
use Rattle.std.proofs.Common.{Option, Some, None, refl, sym, ap, subst, ◌∙◌, eq-eqb}
use Rattle.std.specs.List.{find}
use Rattle.std.proofs.lemmas.Bool.{cases_Bool, cond-true, cond-false}
use Rattle.road_time.specs.declared.road.Tuple.{Tuple}
use Rattle.road_time.specs.declared.day.Limits.{Limits}
use Rattle.road_time.specs.Form.{Fault}
use Rattle.road_time.specs.Reads.{reads}
use Rattle.keep_office.specs.declared.kept.DayRecord.{DayRecord}
use Rattle.keep_office.specs.declared.kept.KeepFault.{KeepFault}
use Rattle.keep_office.specs.declared.kept.KeepFault.TheVariants as keeping
use Rattle.keep_office.specs.Office.{Office, record_of, last_day}
use Rattle.keep_office.specs.Kept.{kept_record, next_office}
use Rattle.keep_office.specs.Calls.{WhenRefused, PutsNothing, FailsLate, AllOrNothing, Leaves}
use Rattle.day_import.specs.declared.outcomes.Outcome.{Outcome}
use Rattle.day_import.specs.declared.outcomes.Outcome.TheVariants.{ReadFault, WriteFault, KeeperFault, NoMemory}
use Rattle.day_import.specs.Imports.{DayAnswer, Does, unless_recorded, unless_passed, import_read}
use Rattle.day_import.specs.Laws.{KeepsOnce, KeepOnce, last_office, RepeatLaw, OnceLaw}

-- where an element that fits stands last, one is found
found_last : (p : DayRecord → Bool) (rs : List DayRecord) (r : DayRecord) → p r ≡ true → (s : DayRecord)
    × (find p (rs ++ r ∷ []) ≡ Some s)
found_last p [] r e = (r, cond-true (p r) (Some r) None e)
found_last p (q ∷ qs) r e =
    ⊎_elim
    (λ (yes : p q ≡ true). (q, cond-true (p q) (Some q) (find p (qs ++ r ∷ [])) yes))
    (λ (off : p q ≡ false). (let rest = found_last p qs r e in
    (rest.0, cond-false (p q) (Some q) (find p (qs ++ r ∷ [])) off ∙ rest.1)))
    (cases_Bool (p q))

-- a day that was kept is kept
kept_then : (number : ℕ) (bytes : List ℕ) (day : List Tuple) (o : Office) → (r : DayRecord)
    × (record_of (next_office number bytes day o) number ≡ Some r)
kept_then number bytes day o =
    found_last (λ r. r.day == number) o.days (kept_record number bytes day o) (eq-eqb number number refl)

-- nothing changes where the day is kept
stays : (number : ℕ) (bytes : List ℕ) (day : List Tuple) (was : Office) (later : List Office) (r : DayRecord) →
    record_of was number ≡ Some r → KeepOnce number bytes day was later → last_office was later ≡ was
stays number bytes day was [] r e h = refl
stays number bytes day was (now ∷ later) r e h =
    let same : now ≡ was = h.0.kept r e in
    let rest = subst (λ (o : Office). KeepOnce number bytes day o later) same h.1 in
    ap (λ (o : Office). last_office o later) same ∙ stays number bytes day was later r e rest

-- however often a day is imported of one input, it is kept once or not at all
pub repeat_law : RepeatLaw
repeat_law number bytes day was [] h = inl refl
repeat_law number bytes day was (now ∷ later) h =
    ⊎_elim
    (λ (same : now ≡ was).
    (let rest =
    repeat_law number bytes day was later (subst (λ (o : Office). KeepOnce number bytes day o later) same h.1) in
    subst (λ (o : Office). (last_office o later ≡ was) ⊎ (last_office o later ≡ next_office number bytes day was))
    (sym same) rest))
    (λ (put : now ≡ next_office number bytes day was). (
    let kept = kept_then number bytes day was in
    let rest = subst (λ (o : Office). KeepOnce number bytes day o later) put h.1 in
    inr (ap (λ (o : Office). last_office o later) put
    ∙ stays number bytes day (next_office number bytes day was) later kept.0 kept.1 rest)))
    h.0.either

-- an office as it was, or as it should be
abbrev Either : Office → DayAnswer → Office → Type 0
Either was a now = (now ≡ was) ⊎ (now ≡ a.office)

-- an office that is there is one
some_same : (p q : Office) → ◌≡◌ {A = Option Office} (Some p) (Some q) → p ≡ q
some_same p q e = cc

-- a refused put leaves the one or the other
leaves_either : (w : WhenRefused) (e : KeepFault) (now was whole : Office) → Leaves w e now was whole → (now ≡ was)
    ⊎ (now ≡ whole)
leaves_either PutsNothing e now was whole h = inl h
leaves_either FailsLate keeping.Failed now was whole h = inr h
leaves_either FailsLate keeping.NoMemory now was whole h = inl h
leaves_either AllOrNothing e now was whole h = h

module _ (w : WhenRefused) (a : DayAnswer) (was now : Office) (old new : Option (List ℕ)) where
  -- what is left is the one or the other, however a call ended
  does_either : (outcome : Outcome) → Does w a was old new (Some now) outcome → Either was a now
  does_either ReadFault h = inl (some_same now was h.1)
  does_either WriteFault h = inl (some_same now was h.1)
  does_either KeeperFault (inl h) = inl (some_same now was h.1)
  does_either KeeperFault (inr h) = let same : h.1.0 ≡ now = sym (some_same now h.1.0 h.1.1) in
      leaves_either w keeping.Failed now was a.office
      (subst (λ (o : Office). Leaves w keeping.Failed o was a.office) same h.1.2)
  does_either NoMemory (inl h) = inl (some_same now was h.1)
  does_either NoMemory (inr h) = let same : h.1.0 ≡ now = sym (some_same now h.1.0 h.1.1) in
      leaves_either w keeping.NoMemory now was a.office
      (subst (λ (o : Office). Leaves w keeping.NoMemory o was a.office) same h.1.2)
  does_either _ h = inr (some_same now a.office h.kept)

-- what importing a day that was read leaves
read_office : (number : ℕ) (bytes : List ℕ) (day : List Tuple) (refused : Option (ℕ × Fault)) (o : Office) →
    ((import_read number bytes day refused o).office ≡ o)
    ⊎ ((import_read number bytes day refused o).office ≡ next_office number bytes day o)
read_office number bytes day None o = inr refl
read_office number bytes day (Some (line, fault)) o = inl refl

-- what importing a day that is not kept leaves
new_office : (number late : ℕ) (limits : Limits) (bytes : List ℕ) (o : Office) →
    ((unless_passed (import_read number bytes (reads bytes limits late).tuples (reads bytes limits late).refused o)
    number o).office ≡ o)
    ⊎ ((unless_passed (import_read number bytes (reads bytes limits late).tuples (reads bytes limits late).refused o)
    number o).office ≡ next_office number bytes (reads bytes limits late).tuples o)
new_office number late limits bytes o =
    ⊎_elim
    (λ (passed : nat_le number (last_day o) ≡ true). inl
    (ap (λ (a : DayAnswer). a.office) (cond-true (nat_le number (last_day o)) _ _ passed)))
    (λ (later : nat_le number (last_day o) ≡ false). (
    let e : unless_passed
    (import_read number bytes (reads bytes limits late).tuples (reads bytes limits late).refused o) number o
    ≡ import_read number bytes (reads bytes limits late).tuples (reads bytes limits late).refused o =
    cond-false (nat_le number (last_day o)) _ _ later in
    subst (λ (a : DayAnswer). (a.office ≡ o) ⊎ (a.office ≡ next_office number bytes (reads bytes limits late).tuples o))
    (sym e) (read_office number bytes (reads bytes limits late).tuples (reads bytes limits late).refused o)))
    (cases_Bool (nat_le number (last_day o)))

-- none is not some
none_some : {X : Type 0} (x : X) → None ≡ Some x → ⊥
none_some x e = cc

-- by whether the day is kept
once_by : (w : WhenRefused) (number late : ℕ) (limits : Limits) (bytes : List ℕ) (was now : Office)
    (old new : Option (List ℕ)) (outcome : Outcome) (k : Option DayRecord)
    → record_of was number ≡ k → Does w (unless_recorded k
    (import_read number bytes (reads bytes limits late).tuples (reads bytes limits late).refused was) number bytes
    was) was old new (Some now) outcome → KeepsOnce number bytes (reads bytes limits late).tuples was now
once_by w number late limits bytes was now old new outcome (Some kept) e h =
    let same : now ≡ was =
    ⊎_elim (λ (s : now ≡ was). s) (λ (s : now ≡ was). s)
    (does_either w
    (unless_recorded (Some kept)
    (import_read number bytes (reads bytes limits late).tuples (reads bytes limits late).refused was) number bytes
    was) was now old new outcome h) in
    record { kept = λ r f. same; either = inl same }
once_by w number late limits bytes was now old new outcome None e h =
    let a : DayAnswer =
    unless_passed (import_read number bytes (reads bytes limits late).tuples (reads bytes limits late).refused was)
    number was in
    record {
      kept = λ r f. absurd (none_some r (sym e ∙ f));
      either = ⊎_elim
          (λ (s : now ≡ was). inl s)
          (λ (s : now ≡ a.office). ⊎_elim (λ (t : a.office ≡ was). inl (s ∙ t))
          (λ (t : a.office ≡ next_office number bytes (reads bytes limits late).tuples was). inr (s ∙ t))
          (new_office number late limits bytes was))
          (does_either w a was now old new outcome h);
    }

-- what an import does keeps the day once
pub once_law : OnceLaw
once_law w number late limits bytes was now old new outcome h =
    once_by w number late limits bytes was now old new outcome (record_of was number) refl h
