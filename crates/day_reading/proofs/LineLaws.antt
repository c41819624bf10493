-- Bytes that are taken, as lines that are checked.
use Rattle.std.proofs.Common.{◌≡◌, ◌⊎◌, inl, inr, ℕ, ◌+◌, ◌-◌, ◌<◌, ◌≤◌, ◌==◌, not, nat_le, min, Bool, true, false}
use Rattle.std.proofs.Common.{List, [], ◌∷◌, ◌++◌}
use Rattle.std.proofs.Common.{length, take, drop, get_or, Option, Some, None, refl, sym, ap, subst, ◌∙◌, arith}
use Rattle.std.proofs.Common.{append_assoc}
use Rattle.std.specs.List.{list_all, fold}
use Rattle.std.proofs.lemmas.Bool.{cond-true, lt-ltb, and_from, eqb-true, leb-true, leb-false}
use Rattle.std.proofs.lemmas.List.{length-take, take_all, take-append-le, take-append-drop, length-append, append-nil}
use Rattle.std.proofs.lemmas.List.Folds.{list_all-append}
use Rattle.std.proofs.lemmas.List.Sums.{fold-append}
use Rattle.std.proofs.Math.Seq.{take-append-add}
use Rattle.road_time.specs.declared.day.Limits.{Limits}
use Rattle.road_time.specs.Form.{Fault, Long}
use Rattle.road_time.specs.Lines.{lines_of}
use Rattle.road_time.specs.Reads.{line_fault}
use Rattle.road_io.proofs.LineLaws.{lines_cut, lines_text, cut_at}
use Rattle.day_reading.specs.Checked.{Checked, unchecked, checked_by, check_line, checked}
use Rattle.day_reading.specs.declared.checker.Checker.{Checker}
use Rattle.day_reading.specs.Checking.{IsChecking, HasChecked}

-- a number is at most 201, or above it
within : (n : ℕ) → (n ≤ 201) ⊎ (201 < n)
within n = go (nat_le n 201) refl
  where
    go : (b : Bool) → nat_le n 201 ≡ b → (n ≤ 201) ⊎ (201 < n)
    go true e = inl (leb-true n 201 e)
    go false e = inr (leb-false n 201 e)

-- the first 201 bytes of a text with more behind it
pub held_more : (text bytes held : List ℕ) → held ≡ take 201 text →
    held ++ take (201 - length held) bytes ≡ take 201 (text ++ bytes)
held_more text bytes held is = go (within (length text))
  where
    size : length held ≡ min 201 (length text)
    size = ap length is ∙ length-take 201 text

    go : (length text ≤ 201) ⊎ (201 < length text) → held ++ take (201 - length held) bytes ≡ take 201 (text ++ bytes)
    go (inl le) =
        let n = 201 - length text in
        let sum : length text + n ≡ 201 = omega (arith, le) in
        let room : 201 - length held ≡ n = omega (arith, size, le) in
        ap (λ m. held ++ take m bytes) room
        ∙ ap (λ xs. xs ++ take n bytes) (is ∙ take_all 201 text le)
        ∙ sym (take-append-add text bytes n) ∙ ap (λ m. take m (text ++ bytes)) sum
    go (inr gt) =
        let room : 201 - length held ≡ 0 = omega (arith, size, gt) in
        ap (λ m. held ++ take m bytes) room ∙ append-nil held ∙ is
        ∙ sym (take-append-le 201 text bytes (omega (arith, gt)))

-- the first 201 bytes of a line say as much as the line
pub held_same : (limits : Limits) (late : ℕ) (c : Checked) (text held : List ℕ) → held ≡ take 201 text →
    check_line limits late c held ≡ check_line limits late c text
held_same limits late c text held is = go (within (length text))
  where
    size : length held ≡ min 201 (length text)
    size = ap length is ∙ length-take 201 text

    long : (line : List ℕ) → 200 < length line → check_line limits late c line ≡ checked_by (Some Long) c []
    long line h = ap (λ o. checked_by o c line) (cond-true _ _ _ (lt-ltb 200 (length line) h))

    go : (length text ≤ 201) ⊎ (201 < length text) → check_line limits late c held ≡ check_line limits late c text
    go (inl le) = ap (check_line limits late c) (is ∙ take_all 201 text le)
    go (inr gt) = long held (omega (arith, size, gt)) ∙ sym (long text (omega (arith, gt)))

-- one line more is checked
pub checked_push : (limits : Limits) (late : ℕ) (done : List (List ℕ)) (text : List ℕ) →
    checked limits late (done ++ text ∷ []) ≡ check_line limits late (checked limits late done) text
checked_push limits late done text = fold-append (check_line limits late) unchecked done (text ∷ [])

module _ (k k' : Checker) (limits : Limits) (late : ℕ) (taken : List ℕ) (h : HasChecked k limits late taken) where
  -- more of a text
  pub text_more : (bytes : List ℕ) → list_all (λ b. not (b == 10)) bytes ≡ true →
      ((done : List (List ℕ)) (text : List ℕ) → IsChecking k limits late done text
      → IsChecking k' limits late done (text ++ bytes)) → HasChecked k' limits late (taken ++ bytes)
  text_more bytes none on = record {
    done = h.done;
    text = h.text ++ bytes;
    unbroken = list_all-append (λ b. not (b == 10)) h.text bytes ∙ and_from _ _ h.unbroken none;
    lines_are = λ more. ap lines_of (append_assoc taken bytes more) ∙ h.lines_are (bytes ++ more)
        ∙ ap (λ ys. h.done ++ lines_of ys) (sym (append_assoc h.text bytes more));
    checking = on h.done h.text h.checking;
  }

  -- the rest of a line, and its end
  pub line_end : (bytes : List ℕ) → list_all (λ b. not (b == 10)) bytes ≡ true →
      ((done : List (List ℕ)) (text : List ℕ) → IsChecking k limits late done text
      → IsChecking k' limits late (done ++ (text ++ bytes) ∷ []) []) →
      HasChecked k' limits late (taken ++ (bytes ++ 10 ∷ []))
  line_end bytes none on = record {
    done = h.done ++ (h.text ++ bytes) ∷ [];
    text = [];
    unbroken = refl;
    lines_are = λ more.
        (let whole : list_all (λ b. not (b == 10)) (h.text ++ bytes) ≡ true =
        list_all-append (λ b. not (b == 10)) h.text bytes ∙ and_from _ _ h.unbroken none in
        let parts : (bytes ++ 10 ∷ []) ++ more ≡ bytes ++ 10 ∷ more = append_assoc bytes (10 ∷ []) more in
        ap lines_of (append_assoc taken (bytes ++ 10 ∷ []) more) ∙ h.lines_are ((bytes ++ 10 ∷ []) ++ more)
        ∙ ap (λ ys. h.done ++ lines_of ys)
        (ap (λ ys. h.text ++ ys) parts ∙ sym (append_assoc h.text bytes (10 ∷ more)))
        ∙ ap (λ ls. h.done ++ ls) (lines_cut (h.text ++ bytes) more whole)
        ∙ sym (append_assoc h.done ((h.text ++ bytes) ∷ []) (lines_of more)));
    checking = on h.done h.text h.checking;
  }

module _ (k : Checker) (limits : Limits) (late : ℕ) (bytes : List ℕ) (h : HasChecked k limits late bytes) where
  -- the lines of all bytes, with the text that waits
  whole : lines_of bytes ≡ h.done ++ lines_of h.text
  whole = ap lines_of (sym (append-nil bytes)) ∙ h.lines_are []
      ∙ ap (λ ys. h.done ++ lines_of ys) (append-nil h.text)

  -- no text waits
  pub ended_whole : length k.line.items ≡ 0 → lines_of bytes ≡ h.done
  ended_whole none =
      let size = ap length h.checking.line ∙ length-take 201 h.text in
      let empty : h.text ≡ [] = no_bytes h.text (omega (arith, size, none)) in
      whole ∙ ap (λ ys. h.done ++ lines_of ys) empty ∙ append-nil h.done
    where
      no_bytes : (xs : List ℕ) → length xs ≡ 0 → xs ≡ []
      no_bytes [] e = refl
      no_bytes (x ∷ xs) e = absurd (omega (arith, e))

  -- a text waits, the last line
  pub ended_text : 0 < length k.line.items → lines_of bytes ≡ h.done ++ h.text ∷ []
  ended_text some =
      let size = ap length h.checking.line ∙ length-take 201 h.text in
      whole ∙ ap (λ ls. h.done ++ ls) (lines_text h.text h.unbroken (omega (arith, size, some)))
