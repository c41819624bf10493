-- what kept amounts tell of a day
use Rattle.std.proofs.Common.{◌≡◌, ℕ, ◌≤◌, ◌==◌, ◌&&◌, nat_le, Bool, cond, true, false, inl, inr, List, [], ◌∷◌, Some}
use Rattle.std.proofs.Common.{refl, sym, ap, subst, ◌∙◌, ⊎_elim}
use Rattle.std.specs.List.{AllByRecursion, filter, find}
use Rattle.std.specs.List.Sorted.{IsStrictlySortedBy}
use Rattle.std.specs.declared.cmp.Ordering.TheVariants.{Less, Equal}
use Rattle.std.specs.Ordering.{nat_cmp, ordering_then, ordering_reverse}
use Rattle.std.specs.Cmp.{nat_cmp_total}
use Rattle.std.proofs.lemmas.Cmp.{tied_itself}
use Rattle.std.proofs.lemmas.Bool.{cases_Bool, and_parts, eqb-true, cond-true, cond-false, le-leb}
use Rattle.road_time.proofs.EachLaws.{weakened}
use Rattle.road_time.specs.declared.day.SpentRow.{SpentRow}
use Rattle.road_time.specs.Rows.{IsBefore}
use Rattle.road_time.specs.History.{is_row, tolls_of}
use Rattle.keep_office.specs.Office.{row_cmp}
use Rattle.keep_office.specs.Laws.{HistoryLaw, KeysLaw, DayRowsLaw}
use Rattle.keep_office.proofs.RowOrder.{row_total, not_row, greater_apart}
use Rattle.keep_office.proofs.ListFacts.{nat_less}

-- true is not false
true_apart : true ≡ false → ⊥
true_apart e = cc

-- what is found is found among those that pass, where each that fits passes
find_among : {X : Type 0} (p t : X → Bool) → ((x : X) → p x ≡ true → t x ≡ true) → (xs : List X) →
    find p (filter t xs) ≡ find p xs
find_among p t fits [] = refl
find_among p t fits (x ∷ xs) =
    ⊎_elim
    (λ (yes : t x ≡ true). ap (find p) (cond-true (t x) (x ∷ filter t xs) (filter t xs) yes)
    ∙ ap (λ o. cond (p x) (Some x) o) (find_among p t fits xs))
    (λ (off : t x ≡ false). ap (find p) (cond-false (t x) (x ∷ filter t xs) (filter t xs) off) ∙ find_among p t fits xs
    ∙ sym (cond-false (p x) (Some x) (find p xs)
    (⊎_elim (λ (is : p x ≡ true). absurd (true_apart (sym (fits x is) ∙ off))) (λ (no_fit : p x ≡ false). no_fit)
    (cases_Bool (p x)))))
    (cases_Bool (t x))

-- a row of a day is among those of the days around it
row_among : (from to day vid xway : ℕ) → from ≤ day → day ≤ to → (r : SpentRow) → is_row day vid xway r ≡ true →
    (nat_le from r.day && nat_le r.day to) ≡ true
row_among from to day vid xway low high r e =
    let same : r.day ≡ day = eqb-true r.day day (and_parts (r.day == day) (r.vid == vid && r.xway == xway) e).0 in
    rw (same, le-leb from day low, le-leb day to high) refl

pub history_law : HistoryLaw
history_law o from to day vid xway low high =
    ap tolls_of
    (find_among (is_row day vid xway) (λ r. nat_le from r.day && nat_le r.day to)
    (row_among from to day vid xway low high) o.rows)

pub keys_law : KeysLaw
unfolding IsStrictlySortedBy
keys_law [] rise = tt
keys_law (r ∷ rs) rise = (
  weakened (λ s. row_cmp r s ≡ Less) (λ s. is_row r.day r.vid r.xway s ≡ false)
      (λ s less. not_row r.day r.vid r.xway s
      (λ e. greater_apart (sym (row_total.antisymm s r ∙ ap ordering_reverse less) ∙ e))) rs rise.0,
  keys_law rs rise.1,
)

-- of two rows of a day the one that stands before is below
before_less : (r s : SpentRow) → r.day ≡ s.day → IsBefore r s → row_cmp r s ≡ Less
before_less r s e (inl h) =
    ap (λ o. ordering_then o (ordering_then (nat_cmp r.vid s.vid) (nat_cmp r.xway s.xway)))
    (subst (λ d. nat_cmp r.day d ≡ Equal) e (tied_itself nat_cmp_total r.day))
    ∙ ap (λ o. ordering_then o (nat_cmp r.xway s.xway)) (nat_less r.vid s.vid h)
before_less r s e (inr h) =
    ap (λ o. ordering_then o (ordering_then (nat_cmp r.vid s.vid) (nat_cmp r.xway s.xway)))
    (subst (λ d. nat_cmp r.day d ≡ Equal) e (tied_itself nat_cmp_total r.day))
    ∙ ap (λ o. ordering_then o (nat_cmp r.xway s.xway))
    (subst (λ v. nat_cmp r.vid v ≡ Equal) h.0 (tied_itself nat_cmp_total r.vid)) ∙ nat_less r.xway s.xway h.1

-- a row is below the later ones of its day
all_less : (r : SpentRow) (rs : List SpentRow) → AllByRecursion (λ s. s.day ≡ r.day) rs → AllByRecursion (IsBefore r) rs
    → AllByRecursion (λ s. row_cmp r s ≡ Less) rs
all_less r [] days h = tt
all_less r (s ∷ ss) days h = (before_less r s (sym days.0) h.0, all_less r ss days.1 h.1)

pub day_rows_law : DayRowsLaw
unfolding IsStrictlySortedBy
day_rows_law [] day days rise = tt
day_rows_law (r ∷ rs) day days rise = (
  all_less r rs (weakened (λ s. s.day ≡ day) (λ s. s.day ≡ r.day) (λ s e. e ∙ sym days.0) rs days.1) rise.0,
  day_rows_law rs day days.1 rise.1,
)
