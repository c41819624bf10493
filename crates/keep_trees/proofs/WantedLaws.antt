-- Which amounts are wanted, by the order of their keys.
use Rattle.std.proofs.Common.{◌≡◌, ◌⊎◌, ℕ, pos, ◌^◌, ◌<◌, ◌≤◌, ◌==◌, ◌&&◌, nat_le, true, false, [], ◌∷◌, take}
use Rattle.std.proofs.Common.{filter, refl, ap, ap₂, ◌∙◌}
use Rattle.std.proofs.Common.{sym, length, eq-eqb, inl, inr, arith, Ordering, Less, Equal, Greater, is_lt}
use Rattle.std.specs.Ordering.{nat_cmp, ordering_then}
use Rattle.std.proofs.lemmas.Bool.{cases_Bool, le-leb}
use Rattle.std.proofs.lemmas.Bool.Decides.{nat_tests}
use Rattle.sqlite_value.specs.declared.value.Value.{Value}
use Rattle.sqlite_value.specs.declared.value.Value.TheVariants.{Int}
use Rattle.sqlite_value.specs.Order.{Row, column, value_cmp}
use Rattle.sqlite_value.specs.Keys.{plain, prefix_cmp}
use Rattle.sqlite_value.proofs.KeyLemmas.{first_key-plain}
use Rattle.sqlite_trees.proofs.TreeLemmas.{prefix_cmp-one}
use Rattle.road_time.specs.declared.day.SpentRow.{SpentRow}
use Rattle.keep_office.specs.Office.{row_cmp}
use Rattle.keep_tables.proofs.ReadLaws.{by_number}
use Rattle.keep_trees.specs.Finds.{pair_key}
use Rattle.keep_trees.specs.Rows.{row_key, is_within, is_of_vehicle}
use Rattle.keep_trees.proofs.RowsLaws.{IsSkipped}

-- one number is below another, or they are level and the rest decides
by_parts : (p q : ℕ) (o rest : Ordering) → nat_cmp p q ≡ o → ordering_then o rest ≡ Less →
    (p < q) ⊎ ((p ≡ q) × (rest ≡ Less))
by_parts p q Less rest e h = inl (grind (arith, nat_tests, e))
by_parts p q Equal rest e h = inr (grind (arith, nat_tests, e), h)
by_parts p q Greater rest e h = absurd (cc)

-- an amount above another is of a later day, or of the same day and no lesser vehicle
rising : (r s : SpentRow) → row_cmp r s ≡ Less → (r.day < s.day) ⊎ ((r.day ≡ s.day) × (r.vid ≤ s.vid))
rising r s less =
    elim (by_parts r.day s.day (nat_cmp r.day s.day) _ refl less) [
      | inl later ↦ inl later
      | inr level ↦ inr (level.0, no_less (by_parts r.vid s.vid (nat_cmp r.vid s.vid) _ refl level.1))
    ]
  where
    no_less : {p q : ℕ} {T : Type 0} → (p < q) ⊎ ((p ≡ q) × T) → p ≤ q
    no_less (inl below) = omega arith
    no_less (inr level) = let e = level.0 in omega arith

-- what is tested to be less is
is_less : (o : Ordering) → is_lt o ≡ true → o ≡ Less
is_less Less h = refl
is_less Equal h = absurd (cc)
is_less Greater h = absurd (cc)

-- an entry lies against a day as its amount does
by_day : (from : ℕ) (e : Row) (r : SpentRow) → take 3 e ≡ row_key r →
    prefix_cmp plain e (Int (pos from) ∷ []) ≡ nat_cmp r.day from
by_day from [] r h = absurd (cc)
by_day from (x ∷ e) r h =
    let same : x ≡ Int (pos r.day) = ap (λ (z : Row). column z 0) h in
    prefix_cmp-one x e (Int (pos from)) ∙ ap (λ v. value_cmp v (Int (pos from))) same ∙ by_number r.day from

-- and against a vehicle on a day
by_pair : (day vid : ℕ) (e : Row) (r : SpentRow) → take 3 e ≡ row_key r →
    prefix_cmp plain e (pair_key day vid) ≡ ordering_then (nat_cmp r.day day) (nat_cmp r.vid vid)
by_pair day vid [] r h = absurd (cc)
by_pair day vid (x ∷ []) r h = absurd (let f : 1 ≡ 3 = ap length h in cc)
by_pair day vid (x ∷ y ∷ e) r h =
    let first : x ≡ Int (pos r.day) = ap (λ (z : Row). column z 0) h in
    let second : y ≡ Int (pos r.vid) = ap (λ (z : Row). column z 1) h in
    let last : prefix_cmp plain (y ∷ e) (Int (pos vid) ∷ []) ≡ nat_cmp r.vid vid =
    prefix_cmp-one y e (Int (pos vid)) ∙ ap (λ v. value_cmp v (Int (pos vid))) second ∙ by_number r.vid vid in
    let whole : ordering_then (value_cmp x (Int (pos day))) (prefix_cmp plain (y ∷ e) (Int (pos vid) ∷ []))
    ≡ ordering_then (nat_cmp r.day day) (nat_cmp r.vid vid) =
    ap₂ ordering_then (ap (λ v. value_cmp v (Int (pos day))) first ∙ by_number r.day day) last in
    two x y e ∙ whole
  where
    two : (v w : Value) (more : Row) → prefix_cmp plain (v ∷ w ∷ more) (pair_key day vid)
        ≡ ordering_then (value_cmp v (Int (pos day))) (prefix_cmp plain (w ∷ more) (Int (pos vid) ∷ []))
    two v w more = rw first_key-plain refl

-- what is before a vehicle on a day is of an earlier day, or of that day and a lesser vehicle
before_pair : (day vid : ℕ) (e : Row) (r : SpentRow) → take 3 e ≡ row_key r
    → is_lt (prefix_cmp plain e (pair_key day vid)) ≡ true
    → (r.day < day) ⊎ ((r.day ≡ day) × (r.vid < vid))
before_pair day vid e r its low =
    let less = is_less _ (ap is_lt (sym (by_pair day vid e r its)) ∙ low) in
    elim (by_parts r.day day (nat_cmp r.day day) (nat_cmp r.vid vid) refl less) [
      | inl early ↦ inl early
      | inr level ↦ let below = level.1 in inr (level.0, grind (arith, nat_tests, below))
    ]

-- no amount of another day is of these days
after_all : (from to day : ℕ) → to < day → (nat_le from day && nat_le day to) ≡ false
after_all from to day far = grind (arith, nat_tests)

-- nor is an earlier day of them
before_all : (from to day : ℕ) → day < from → (nat_le from day && nat_le day to) ≡ false
before_all from to day near = grind (arith, nat_tests)

-- behind the last day none is wanted
pub late : (from to : ℕ) (r : SpentRow) → to < r.day → is_within from to r ≡ false
late from to r far = after_all from to r.day far

-- what is above an amount of a later day is of a later day
pub later_still : (from to : ℕ) (r s : SpentRow) → to < r.day → row_cmp r s ≡ Less → is_within from to s ≡ false
later_still from to r s far less =
    elim (rising r s less) [
      | inl up ↦ after_all from to s.day (omega arith)
      | inr level ↦ let e =
          level.0 in after_all from to s.day (omega arith)
    ]

-- up to it an amount is wanted if it is not below the first day
pub one_within : (from to : ℕ) (r : SpentRow) → r.day ≤ to →
    filter (λ (s : SpentRow). nat_le from s.day) (r ∷ []) ≡ filter (is_within from to) (r ∷ [])
one_within from to r up =
    elim (cases_Bool (nat_le from r.day))
    [ inl in_time ↦ rw (in_time, le-leb r.day to up) refl | inr early ↦ rw early refl ]

-- before the first day none is wanted
pub early_days : (from to : ℕ) (r : SpentRow) → IsSkipped (is_within from to) (Int (pos from) ∷ []) r
early_days from to r e its low =
    let less = is_less _ (ap is_lt (sym (by_day from e r its)) ∙ low) in
    before_all from to r.day (grind (arith, nat_tests, less))

-- ---- a vehicle

-- what is of other days, and what is of another vehicle, is not wanted
not_days : (vid from to : ℕ) (r : SpentRow) → (nat_le from r.day && nat_le r.day to) ≡ false
    → is_of_vehicle vid from to r ≡ false
not_days vid from to r off = elim
    (cases_Bool (r.vid == vid)) [ inl its ↦ rw (its, off) refl | inr other ↦ rw other refl ]

-- an amount of another vehicle is not wanted
pub not_it : (vid from to : ℕ) (r : SpentRow) → (r.vid == vid) ≡ false → is_of_vehicle vid from to r ≡ false
not_it vid from to r other = rw other refl

-- a lesser number is another
lower : (m n : ℕ) → m < n → (m == n) ≡ false
lower m n h = grind (arith, nat_tests)

-- so is a greater one
higher : (m n : ℕ) → n < m → (m == n) ≡ false
higher m n h = grind (arith, nat_tests)

-- behind the last day none is wanted
pub late_of : (vid from to : ℕ) (r : SpentRow) → to < r.day → is_of_vehicle vid from to r ≡ false
late_of vid from to r far = not_days vid from to r (after_all from to r.day far)

-- nor is what is above it
pub later_of : (vid from to : ℕ) (r s : SpentRow) → to < r.day → row_cmp r s ≡ Less
    → is_of_vehicle vid from to s ≡ false
later_of vid from to r s far less = not_days vid from to s (later_still from to r s far less)

-- nor behind the vehicle on the last day
pub above_of : (vid from to : ℕ) (r : SpentRow) → vid < r.vid → is_of_vehicle vid from to r ≡ false
above_of vid from to r more = not_it vid from to r (higher r.vid vid more)

-- an amount of a lesser vehicle is not wanted
pub below_of : (vid from to : ℕ) (r : SpentRow) → r.vid < vid → is_of_vehicle vid from to r ≡ false
below_of vid from to r less = not_it vid from to r (lower r.vid vid less)

-- what is above a greater vehicle on the last day is not wanted
pub ends_of : (vid from to : ℕ) (r s : SpentRow) → r.day ≡ to → vid < r.vid → row_cmp r s ≡ Less
    → is_of_vehicle vid from to s ≡ false
ends_of vid from to r s last more less =
    elim (rising r s less) [
      | inl up ↦ late_of vid from to s (omega arith)
      | inr level ↦ let n = level.1 in above_of vid from to s (omega arith)
    ]

-- up to the last day an amount of the vehicle is wanted if it is not below the first day
pub one_of : (vid from to : ℕ) (r : SpentRow) → r.vid ≡ vid → r.day ≤ to →
    filter (λ (s : SpentRow). nat_le from s.day) (r ∷ []) ≡ filter (is_of_vehicle vid from to) (r ∷ [])
one_of vid from to r its up =
    let here : (r.vid == vid) ≡ true = eq-eqb r.vid vid its in
    elim (cases_Bool (nat_le from r.day))
    [ inl in_time ↦ rw (here, in_time, le-leb r.day to up) refl | inr early ↦ rw (here, early) refl ]

-- before the vehicle on the first day none is wanted
pub early_of : (vid from to : ℕ) (r : SpentRow) → IsSkipped (is_of_vehicle vid from to) (pair_key from vid) r
early_of vid from to r e its low =
    elim (before_pair from vid e r its low) [
      | inl before ↦ not_days vid from to r (before_all from to r.day before)
      | inr level ↦ below_of vid from to r level.1
    ]

-- from a lesser vehicle to it on the same day none is wanted
pub leap_up : (vid from to : ℕ) (r s : SpentRow) → row_cmp r s ≡ Less
    → IsSkipped (is_of_vehicle vid from to) (pair_key r.day vid) s
leap_up vid from to r s less e its low =
    elim (before_pair r.day vid e s its low) [
      | inl before ↦ absurd (elim (rising r s less)
          [ inl up ↦ omega arith | inr level ↦ let d = level.0 in omega arith ])
      | inr level ↦ below_of vid from to s level.1
    ]

-- nor from a greater one to the end of its day
pub leap_off : (vid from to : ℕ) (r s : SpentRow) → vid < r.vid → row_cmp r s ≡ Less →
    IsSkipped (is_of_vehicle vid from to) (pair_key r.day (2 ^ 32)) s
leap_off vid from to r s more less e its low =
    elim (before_pair r.day (2 ^ 32) e s its low) [
      | inl before ↦ absurd (elim (rising r s less)
          [ inl up ↦ omega arith | inr level ↦ let d = level.0 in omega arith ])
      | inr level ↦ elim (rising r s less) [
        | inl up ↦ absurd (let d = level.0 in omega arith)
        | inr same ↦ let n = same.1 in above_of vid from to s (omega arith)
      ]
    ]

-- the entry that is leapt from is below the key
pub is_under : (vid : ℕ) (e : Row) (r : SpentRow) → take 3 e ≡ row_key r → r.vid < vid
    → is_lt (prefix_cmp plain e (pair_key r.day vid)) ≡ true
is_under vid e r its less = ap is_lt (by_pair r.day vid e r its) ∙ grind (arith, nat_tests, less)

-- the columns of an entry that an amount names
pub key_columns : (e : Row) (r : SpentRow) → take 3 e ≡ row_key r → (column e 0 ≡ Int (pos r.day))
    × (column e 1 ≡ Int (pos r.vid))
key_columns [] r h = absurd (cc)
key_columns (x ∷ []) r h = absurd (let f : 1 ≡ 3 = ap length h in cc)
key_columns (x ∷ y ∷ e) r h = (ap (λ (z : Row). column z 0) h, ap (λ (z : Row). column z 1) h)

-- two columns that are numbers are the same number
pub one_number : (v : Value) (m n : ℕ) → v ≡ Int (pos m) → v ≡ Int (pos n) → m ≡ n
one_number v m n first second = let e : Int (pos m) ≡ Int (pos n) = sym first ∙ second in cc
