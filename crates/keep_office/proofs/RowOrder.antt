-- the order of rows, and what a search of rows in order finds
use Rattle.std.proofs.Common.{◌≡◌, ℕ, ◌<◌, ◌≤◌, ◌==◌, ◌&&◌, ◌⊎◌, inl, inr, true, false, List, [], ◌∷◌, length, get_or}
use Rattle.std.proofs.Common.{refl, sym, ap, ⊎_elim, subst, ◌∙◌, arith, suc, zero}
use Rattle.std.specs.List.{AllByRecursion}
use Rattle.std.specs.List.Sorted.{IsStrictlySortedBy, IsNonDecreasingBy, IsPartitionPoint}
use Rattle.std.specs.declared.cmp.Ordering.{Ordering}
use Rattle.std.specs.declared.cmp.Ordering.TheVariants.{Less, Equal, Greater}
use Rattle.std.specs.Ordering.{nat_cmp, ordering_then, ordering_index}
use Rattle.std.specs.Cmp.{IsTotalOrder, then_total, on_total, nat_cmp_total}
use Rattle.std.specs.FinMap.{nat_cmp-IsAntisymmetric}
use Rattle.std.proofs.lemmas.Cmp.{tied_itself, alike_right}
use Rattle.std.proofs.lemmas.Map.Keys.{Less-from_sorted}
use Rattle.std.proofs.lemmas.Bool.{cases_Bool, cases_lt, and_parts, eqb-true, cond-true, cond-false}
use Rattle.road_time.specs.declared.day.SpentRow.{SpentRow}
use Rattle.road_time.specs.History.{is_row, paid, tolls_of}
use Rattle.keep_office.specs.Office.{key_cmp, row_cmp, RowsRise}
use Rattle.keep_office.proofs.ListFacts.{self_same}

-- a total order
pub row_total : IsTotalOrder row_cmp
row_total =
    then_total (on_total (λ (r : SpentRow). r.day) nat_cmp_total)
    (then_total (on_total (λ (r : SpentRow). r.vid) nat_cmp_total) (on_total (λ (r : SpentRow). r.xway) nat_cmp_total))

-- comparisons that tie, tie each
pub then_parts : (a b : Ordering) → ordering_then a b ≡ Equal → (a ≡ Equal) × (b ≡ Equal)
then_parts Less b e = absurd cc
then_parts Equal b e = (refl, e)
then_parts Greater b e = absurd cc

-- a row that ties with a key has it
key_is : (day vid xway : ℕ) (r : SpentRow) → key_cmp day vid xway r ≡ Equal → (r.day ≡ day) × (r.vid ≡ vid)
    × (r.xway ≡ xway)
key_is day vid xway r e =
    let a = then_parts (nat_cmp r.day day) (ordering_then (nat_cmp r.vid vid) (nat_cmp r.xway xway)) e in
    let b = then_parts (nat_cmp r.vid vid) (nat_cmp r.xway xway) a.1 in (
      nat_cmp-IsAntisymmetric r.day day a.0,
      nat_cmp-IsAntisymmetric r.vid vid b.0,
      nat_cmp-IsAntisymmetric r.xway xway
          b.1,
    )

-- a row of a key ties with it
row_ties : (day vid xway : ℕ) (r : SpentRow) → is_row day vid xway r ≡ true → key_cmp day vid xway r ≡ Equal
row_ties day vid xway r e =
    let a = and_parts (r.day == day) (r.vid == vid && r.xway == xway) e in
    let b = and_parts (r.vid == vid) (r.xway == xway) a.1 in
    let tie : (m n : ℕ) → (m == n) ≡ true → nat_cmp m n ≡ Equal =
    λ m n is. subst (λ k. nat_cmp m k ≡ Equal) (eqb-true m n is) (tied_itself nat_cmp_total m) in
    ap (λ o. ordering_then o (ordering_then (nat_cmp r.vid vid) (nat_cmp r.xway xway))) (tie r.day day a.0)
    ∙ ap (λ o. ordering_then o (nat_cmp r.xway xway)) (tie r.vid vid b.0) ∙ tie r.xway xway b.1

-- a row that does not tie with a key is not of it
pub not_row : (day vid xway : ℕ) (r : SpentRow) → (key_cmp day vid xway r ≡ Equal → ⊥) → is_row day vid xway r ≡ false
not_row day vid xway r apart =
    ⊎_elim (λ yes. absurd (apart (row_ties day vid xway r yes))) (λ off. off) (cases_Bool (is_row day vid xway r))

-- a row that ties with a key is of it
is_tied : (day vid xway : ℕ) (r : SpentRow) → key_cmp day vid xway r ≡ Equal → is_row day vid xway r ≡ true
is_tied day vid xway r e =
    let k = key_is day vid xway r e in
    rw (sym k.0, sym k.1, sym k.2) (ap (λ b. b && (r.vid == r.vid && r.xway == r.xway)) (self_same r.day)
    ∙ ap (λ b. b && r.xway == r.xway) (self_same r.vid) ∙ self_same r.xway)

-- an earlier row is below a later one that ties with a key
earlier_less : (day vid xway : ℕ) (r s : SpentRow) → row_cmp r s ≡ Less → key_cmp day vid xway s ≡ Equal →
    key_cmp day vid xway r ≡ Less
earlier_less day vid xway r s less e = let k = key_is day vid xway s e in rw (sym k.0, sym k.1, sym k.2) less

-- what holds of each holds at a place
all_at : {X : Type 0} (P : X → Type 0) (xs : List X) (i : ℕ) (d : X) → AllByRecursion P xs → i < length xs →
    P (get_or xs i d)
all_at P [] i d h less = absurd (omega arith)
all_at P (x ∷ xs) zero d h less = h.0
all_at P (x ∷ xs) (suc i) d h less = all_at P xs i d h.1 (omega arith)

-- less is not equal, and greater is not
pub less_apart : Less ≡ Equal → ⊥
less_apart e = cc

pub greater_apart : Greater ≡ Equal → ⊥
greater_apart e = cc

-- the row that ties with a key is the one that is paid
pub found_paid : (day vid xway : ℕ) (rows : List SpentRow) (i : ℕ) (d : SpentRow) → RowsRise rows → i < length rows →
    key_cmp day vid xway (get_or rows i d) ≡ Equal → paid rows day vid xway ≡ (get_or rows i d).tolls
unfolding IsStrictlySortedBy
found_paid day vid xway [] i d rise h e = absurd (omega arith)
found_paid day vid xway (r ∷ rs) zero d rise h e =
    ap tolls_of (cond-true (is_row day vid xway r) _ _ (is_tied day vid xway r e))
found_paid day vid xway (r ∷ rs) (suc i) d rise h e =
    let less : row_cmp r (get_or rs i d) ≡ Less = all_at (λ s. row_cmp r s ≡ Less) rs i d rise.0 (omega arith) in
    let off =
    not_row day vid xway r (λ tie. less_apart (sym (earlier_less day vid xway r (get_or rs i d) less e) ∙ tie)) in
    ap tolls_of (cond-false (is_row day vid xway r) _ _ off) ∙ found_paid day vid xway rs i d rise.1 (omega arith) e

-- where no row ties with a key, nothing is paid
none_paid : (day vid xway : ℕ) (rows : List SpentRow) →
    ((i : ℕ) (d : SpentRow) → i < length rows → key_cmp day vid xway (get_or rows i d) ≡ Equal → ⊥) →
    paid rows day vid xway ≡ 0
none_paid day vid xway [] apart = refl
none_paid day vid xway (r ∷ rs) apart =
    ap tolls_of (cond-false (is_row day vid xway r) _ _ (not_row day vid xway r (apart 0 r (omega arith))))
    ∙ none_paid day vid xway rs (λ i d h. apart (suc i) d (omega arith))

-- no place is above greater
top : (o : Ordering) → ordering_index o ≤ ordering_index Greater
top Less = omega arith
top Equal = omega arith
top Greater = omega arith

-- one number is the other or below it
cases_le : (i j : ℕ) → i ≤ j → (i ≡ j) ⊎ (i < j)
cases_le i j h = ⊎_elim (λ lt. inr lt) (λ ge. inl (omega arith)) (cases_lt i j)

-- of two rows in order the first stands no higher to a third
index_rises : (a b k : SpentRow) → row_cmp a b ≡ Less → (o : Ordering) → row_cmp b k ≡ o →
    ordering_index (row_cmp a k) ≤ ordering_index (row_cmp b k)
index_rises a b k less Less e = rw (row_total.trans a b k less e, e) (omega arith)
index_rises a b k less Equal e =
    let same : row_cmp a k ≡ row_cmp a b = sym (alike_right row_total b k a e) in
    rw (same ∙ less, e) (omega arith)
index_rises a b k less Greater e = rw e (top (row_cmp a k))

-- how places stand to a key does not fall along the rows
pub key_rises : (day vid xway : ℕ) (rows : List SpentRow) → RowsRise rows →
    IsNonDecreasingBy (λ r. ordering_index (key_cmp day vid xway r)) rows
key_rises day vid xway rows rise i j d h less =
    let key : SpentRow = record { day = day; vid = vid; xway = xway; tolls = 0 } in
    elim (cases_le i j h) [
      | inl e ↦ subst
          (λ k. ordering_index (row_cmp (get_or rows i d) key) ≤ ordering_index (row_cmp (get_or rows k d) key)) e
          (omega arith)
      | inr lt ↦ index_rises (get_or rows i d) (get_or rows j d) key (Less-from_sorted row_cmp rows i j d rise lt less)
          (row_cmp (get_or rows j d) key) refl
    ]

-- what no place ties with is not paid
pub missed_paid : (day vid xway : ℕ) (rows : List SpentRow) (i : ℕ) →
    IsPartitionPoint (λ r. key_cmp day vid xway r ≡ Less) (λ r. key_cmp day vid xway r ≡ Greater) rows i →
    paid rows day vid xway ≡ 0
missed_paid day vid xway rows i point =
    none_paid day vid xway rows (λ j d h e. elim (cases_lt j i) [
      | inl lt ↦ less_apart (sym (point.0 j d (omega arith) lt) ∙ e)
      | inr le ↦ greater_apart (sym (point.1 j d le h) ∙ e)
    ])
