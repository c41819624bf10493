-- What follows of a check: its first refused line, and its good lines.
use Rattle.std.proofs.Common.{◌≡◌, ◌∙◌, ℕ, ◌+◌, List, [], ◌∷◌, ◌++◌, length, slice_get, Option, Some, None, refl, sym}
use Rattle.std.proofs.Common.{ap}
use Rattle.std.proofs.Common.{append_assoc, arith}
use Rattle.std.specs.List.{fold}
use Rattle.std.proofs.lemmas.List.{append-nil}
use Rattle.road_time.specs.declared.day.Limits.{Limits}
use Rattle.road_time.specs.Form.{Fault}
use Rattle.road_time.specs.Lines.{lines_of}
use Rattle.road_time.specs.Reads.{LinesRead, line_fault, reading_at, accepts, accepts_after}
use Rattle.day_reading.specs.Checked.{Checked, unchecked, checked_by, check_line, checked}

module _ (limits : Limits) (late : ℕ) where
  -- of these lines, which follow others, none is refused
  abbrev NoneRefused : List (List ℕ) → List (List ℕ) → Type 0
  NoneRefused before lines = (accepts_after limits late before lines).refused ≡ None

  -- a reading that goes on
  goes_on : (before : List (List ℕ)) (o : Option Fault) (rest rest' : LinesRead) →
      (reading_at before o rest).refused ≡ None → (rest.refused ≡ None → rest'.refused ≡ None) →
      (reading_at before o rest').refused ≡ None
  goes_on before None rest rest' h k = k h
  goes_on before (Some f) rest rest' h k = absurd (cc h)

  -- one good line more
  push : (before lines : List (List ℕ)) (line : List ℕ) → NoneRefused before lines →
      line_fault limits late (before ++ lines) line ≡ None → NoneRefused before (lines ++ line ∷ [])
  push before [] line h e =
      let none : line_fault limits late before line ≡ None =
      ap (λ ls. line_fault limits late ls line) (sym (append-nil before)) ∙ e in
      ap (λ o. (reading_at before o (accepts_after limits late (before ++ line ∷ []) [])).refused) none
  push before (l ∷ ls) line h e =
      goes_on before (line_fault limits late before l) (accepts_after limits late (before ++ l ∷ []) ls)
      (accepts_after limits late (before ++ l ∷ []) (ls ++ line ∷ [])) h
      (λ rest. push (before ++ l ∷ []) ls line rest
      (ap (λ xs. line_fault limits late xs line) (append_assoc before (l ∷ []) ls) ∙ e))

  -- a line more keeps that no good line is refused
  keeps : (c : Checked) (line : List ℕ) → NoneRefused [] c.kept → NoneRefused [] (check_line limits late c line).kept
  keeps c line h = go (line_fault limits late c.kept line) refl
    where
      go : (o : Option Fault) → line_fault limits late c.kept line ≡ o → NoneRefused [] (checked_by o c line).kept
      go None e = push [] c.kept line h e
      go (Some f) e = h

  -- and so all lines
  keeps_all : (c : Checked) (lines : List (List ℕ)) → NoneRefused [] c.kept →
      NoneRefused [] (fold (check_line limits late) c lines).kept
  keeps_all c [] h = h
  keeps_all c (l ∷ ls) h = keeps_all (check_line limits late c l) ls (keeps c l h)

  pub good_lines : (lines : List (List ℕ)) → NoneRefused [] (checked limits late lines).kept
  good_lines lines = keeps_all unchecked lines refl

  -- what was named first stays first
  stays : (o : Option Fault) (c : Checked) (line : List ℕ) (r : ℕ × Fault) → slice_get c.refusals 0 ≡ Some r →
      slice_get (checked_by o c line).refusals 0 ≡ Some r
  stays None c line r e = e
  stays (Some f) c line r e = front c.refusals (length c.kept + length c.refusals + 1, f) e
    where
      front : (rs : List (ℕ × Fault)) (new : ℕ × Fault) → slice_get rs 0 ≡ Some r →
          slice_get (rs ++ new ∷ []) 0 ≡ Some r
      front [] new is = absurd (cc is)
      front (x ∷ xs) new is = is

  stays_all : (c : Checked) (lines : List (List ℕ)) (r : ℕ × Fault) → slice_get c.refusals 0 ≡ Some r →
      slice_get (fold (check_line limits late) c lines).refusals 0 ≡ Some r
  stays_all c [] r e = e
  stays_all c (l ∷ ls) r e =
      stays_all (check_line limits late c l) ls r (stays (line_fault limits late c.kept l) c l r e)

  -- the first that is named is the one at which a reading ends
  first_of : (c : Checked) (lines : List (List ℕ)) → c.refusals ≡ [] →
      (accepts_after limits late c.kept lines).refused
      ≡ slice_get (fold (check_line limits late) c lines).refusals 0
  first_of c [] none = ap (λ (rs : List (ℕ × Fault)). slice_get rs 0) (sym none)
  first_of c (l ∷ ls) none =
      go (first_of (record { kept = c.kept ++ l ∷ []; refusals = c.refusals }) ls none)
      (line_fault limits late c.kept l)
    where
      go : (accepts_after limits late (c.kept ++ l ∷ []) ls).refused
          ≡ slice_get (fold (check_line limits late) (checked_by None c l) ls).refusals 0 →
          (o : Option Fault) → (reading_at c.kept o (accepts_after limits late (c.kept ++ l ∷ []) ls)).refused
          ≡ slice_get (fold (check_line limits late) (checked_by o c l) ls).refusals 0
      go on None = on
      go on (Some f) =
          let one : ℕ × Fault = (length c.kept + length c.refusals + 1, f) in
          let at : length c.kept + 1 ≡ length c.kept + length c.refusals + 1 = omega (arith, ap length none) in
          let named : slice_get (checked_by (Some f) c l).refusals 0 ≡ Some one =
          ap (λ (rs : List (ℕ × Fault)). slice_get (rs ++ one ∷ []) 0) none in
          ap (λ n. Some (n, f)) at ∙ sym (stays_all (checked_by (Some f) c l) ls one named)

  pub first_line : (bytes : List ℕ) →
      (accepts bytes limits late).refused ≡ slice_get (checked limits late (lines_of bytes)).refusals 0
  first_line bytes = first_of unchecked (lines_of bytes) refl
