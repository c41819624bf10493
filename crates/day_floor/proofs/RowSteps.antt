-- listed rows, put in order, are the rows
use Rattle.std.proofs.Common.{◌≡◌, ℕ, ◌+◌, ◌≤◌, ◌<◌, ◌==◌, ◌&&◌, ◌++◌, inl, inr, Bool, true, false, cond, nat_lt, List}
use Rattle.std.proofs.Common.{[], ◌∷◌, length, map, Some, refl, sym, ap, ◌∙◌, arith, get_or}
use Rattle.std.specs.Option.{unwrap_or}
use Rattle.std.specs.List.{sum_by, AllByRecursion, IsDistinct}
use Rattle.std.specs.List.Sorted.{IsPermutation, IsSortedByKey, IsStrictlySortedBy}
use Rattle.std.specs.Map.{lookup, keys_of}
use Rattle.std.specs.declared.cmp.Ordering.{Ordering}
use Rattle.std.specs.declared.cmp.Ordering.TheVariants.{Less, Equal, Greater}
use Rattle.std.specs.Ordering.{nat_cmp, ordering_then, is_eq, is_lt, ordering_reverse}
use Rattle.std.specs.Cmp.{ranked}
use Rattle.std.proofs.lemmas.List.Sums.{sum_by-cons}
use Rattle.std.proofs.lemmas.List.{get_or-map, length-map, append_assoc}
use Rattle.std.proofs.lemmas.List.Sorted.{IsPermutation-map, sum_by-IsPermutation, All-permutation}
use Rattle.std.proofs.lemmas.List.Elements.{All-from_recursion, recursion_from_All}
use Rattle.std.proofs.lemmas.Map.Keys.{IsDistinct-head, IsDistinct-tail, IsDistinct-cons, IsDistinct-IsPermutation}
use Rattle.std.proofs.lemmas.Map.Keys.{apart_from_distinct, sorted_from_all_adjacent, sorted_head, sorted_tail}
use Rattle.std.proofs.lemmas.Bool.{cond_both, cond-true, cond-false, ltb-true, ltb-false}
use Rattle.road_time.specs.declared.day.SpentRow.{SpentRow}
use Rattle.road_time.specs.Rows.{IsBefore, AreRowsRising, tolls_in}
use Rattle.day_floor.specs.Sums.{owner_cmp, sums_of, same_owner, sum_at, owner_of, listed, AreRowsOf}
use Rattle.day_floor.proofs.SumLaws.{get_sums}
use Rattle.day_floor.proofs.OwnerOrder.{owner_total, owner_tied, same_flip, same_is}
use Rattle.road_time.proofs.RowLaws.{tolls_cons}

-- what is listed

-- what holds of each owner holds of each that is listed
listed_keys : (P : ℕ × ℕ → Type 0) (day : ℕ) (es : List ((ℕ × ℕ) × ℕ)) → AllByRecursion P (keys_of es) →
    AllByRecursion P (map owner_of (listed day es))
listed_keys P day [] h = tt
listed_keys P day (e ∷ es) h =
    cond_both (nat_lt 0 e.1) (record { day = day; vid = e.0.0; xway = e.0.1; tolls = e.1 } ∷ listed day es)
    (listed day es) (λ rs. AllByRecursion P (map owner_of rs))
    (λ _. (h.0, listed_keys P day es h.1)) (λ _. listed_keys P day es h.1)

-- each owner is listed once
listed_apart : (day : ℕ) (es : List ((ℕ × ℕ) × ℕ)) → IsDistinct same_owner (keys_of es) →
    IsDistinct same_owner (map owner_of (listed day es))
listed_apart day [] h = h
listed_apart day (e ∷ es) h =
    let rest = listed_apart day es (IsDistinct-tail same_owner e.0 (keys_of es) h) in
    cond_both (nat_lt 0 e.1) (record { day = day; vid = e.0.0; xway = e.0.1; tolls = e.1 } ∷ listed day es)
    (listed day es) (λ rs. IsDistinct same_owner (map owner_of rs))
    (λ _. IsDistinct-cons same_owner e.0 (map owner_of (listed day es))
    (listed_keys (λ k. same_owner e.0 k ≡ false) day es (IsDistinct-head same_owner e.0 (keys_of es) h)) rest)
    (λ _. rest)

-- entries are listed one by one
pub listed_one : (day : ℕ) (e : (ℕ × ℕ) × ℕ) (es : List ((ℕ × ℕ) × ℕ)) →
    listed day (e ∷ []) ++ listed day es ≡ listed day (e ∷ es)
listed_one day e es =
    cond_both (nat_lt 0 e.1) (record { day = day; vid = e.0.0; xway = e.0.1; tolls = e.1 } ∷ listed day es)
    (listed day es) (λ rs. listed day (e ∷ []) ++ listed day es ≡ rs)
    (λ t. ap (λ rs. rs ++ listed day es)
    (cond-true (nat_lt 0 e.1) (record { day = day; vid = e.0.0; xway = e.0.1; tolls = e.1 } ∷ []) [] t))
    (λ t. ap (λ rs. rs ++ listed day es)
    (cond-false (nat_lt 0 e.1) (record { day = day; vid = e.0.0; xway = e.0.1; tolls = e.1 } ∷ []) [] t))

-- and so are two lists of them
pub listed_both : (day : ℕ) (es fs : List ((ℕ × ℕ) × ℕ)) → listed day (es ++ fs) ≡ listed day es ++ listed day fs
listed_both day [] fs = refl
listed_both day (e ∷ es) fs =
    sym (listed_one day e (es ++ fs)) ∙ (ap (λ rs. listed day (e ∷ []) ++ rs) (listed_both day es fs)
    ∙ (sym (append_assoc (listed day (e ∷ [])) (listed day es) (listed day fs))
    ∙ ap (λ rs. rs ++ listed day fs) (listed_one day e es)))

-- under the day
listed_day : (day : ℕ) (es : List ((ℕ × ℕ) × ℕ)) → AllByRecursion (λ r. r.day ≡ day) (listed day es)
listed_day day [] = tt
listed_day day (e ∷ es) =
    cond_both (nat_lt 0 e.1) (record { day = day; vid = e.0.0; xway = e.0.1; tolls = e.1 } ∷ listed day es)
    (listed day es) (AllByRecursion (λ r. r.day ≡ day))
    (λ _. (refl, listed_day day es)) (λ _. listed_day day es)

-- and none with nothing
listed_some : (day : ℕ) (es : List ((ℕ × ℕ) × ℕ)) → AllByRecursion (λ r. 0 < r.tolls) (listed day es)
listed_some day [] = tt
listed_some day (e ∷ es) =
    cond_both (nat_lt 0 e.1) (record { day = day; vid = e.0.0; xway = e.0.1; tolls = e.1 } ∷ listed day es)
    (listed day es) (AllByRecursion (λ r. 0 < r.tolls))
    (λ t. (ltb-true 0 e.1 t, listed_some day es)) (λ _. listed_some day es)

-- whether a row is of the vehicle and the expressway
abbrev holds : ℕ → ℕ → SpentRow → Bool
holds v x r = r.vid == v && r.xway == x

-- a row that is listed or not, as it has something
tolls_listed : (day : ℕ) (e : (ℕ × ℕ) × ℕ) (es : List ((ℕ × ℕ) × ℕ)) (v x : ℕ) →
    tolls_in (listed day (e ∷ es)) v x ≡ cond (same_owner e.0 (v, x)) e.1 0 + tolls_in (listed day es) v x
tolls_listed day e es v x =
    cond_both (nat_lt 0 e.1) (record { day = day; vid = e.0.0; xway = e.0.1; tolls = e.1 } ∷ listed day es)
    (listed day es) (λ rs. tolls_in rs v x ≡ cond (same_owner e.0 (v, x)) e.1 0 + tolls_in (listed day es) v x)
    (λ _. tolls_cons (record { day = day; vid = e.0.0; xway = e.0.1; tolls = e.1 }) (listed day es) v x)
    (λ t. nothing (same_owner e.0 (v, x)) e.1 (tolls_in (listed day es) v x) (ltb-false 0 e.1 t))
  where
    nothing : (b : Bool) (n m : ℕ) → n ≤ 0 → m ≡ cond b n 0 + m
    nothing true n m h = omega arith
    nothing false n m h = omega arith

-- nothing is listed of an owner that has no entry
none_listed : (day : ℕ) (es : List ((ℕ × ℕ) × ℕ)) (k : ℕ × ℕ) (v x : ℕ) → k ≡ (v, x) →
    AllByRecursion (λ q. same_owner k q ≡ false) (keys_of es) → tolls_in (listed day es) v x ≡ 0
none_listed day [] k v x e h = refl
none_listed day (f ∷ fs) k v x e h =
    let one = tolls_listed day f fs v x in
    let rest = none_listed day fs k v x e h.1 in
    let other : same_owner f.0 (v, x) ≡ false = ap (same_owner f.0) (sym e) ∙ (same_flip f.0 k ∙ h.0) in
    let gone : cond (same_owner f.0 (v, x)) f.1 0 ≡ 0 = cond-false (same_owner f.0 (v, x)) f.1 0 other in
    omega (arith, one, rest, gone)

-- what is listed of an owner is its sum
listed_exact : (day : ℕ) (es : List ((ℕ × ℕ) × ℕ)) → IsDistinct same_owner (keys_of es) → (v x : ℕ) →
    tolls_in (listed day es) v x ≡ sum_at es (v, x)
listed_exact day [] h v x = refl
listed_exact day (e ∷ es) h v x =
    let one = tolls_listed day e es v x in
    let rest = listed_exact day es (IsDistinct-tail same_owner e.0 (keys_of es) h) v x in
    let flip = same_flip e.0 (v, x) in
    cond_both (same_owner (v, x) e.0) (Some e.1) (lookup (same_owner (v, x)) es)
    (λ o. tolls_in (listed day (e ∷ es)) v x ≡ unwrap_or o 0)
    (λ t. let none =
    none_listed day es e.0 v x (sym (same_is (v, x) e.0 t)) (IsDistinct-head same_owner e.0 (keys_of es) h) in
    let there : cond (same_owner e.0 (v, x)) e.1 0 ≡ e.1 = cond-true (same_owner e.0 (v, x)) e.1 0 (flip ∙ t) in
    omega (arith, one, none, there))
    (λ t. let gone : cond (same_owner e.0 (v, x)) e.1 0 ≡ 0 = cond-false (same_owner e.0 (v, x)) e.1 0 (flip ∙ t) in
    omega (arith, one, rest, gone))

-- what is moved

-- the tolls of an owner as a sum over all rows
weighed : (v x : ℕ) (rs : List SpentRow) → tolls_in rs v x ≡ sum_by (λ r. cond (holds v x r) r.tolls 0) rs
weighed v x [] = refl
weighed v x (r ∷ rs) =
    let one = tolls_cons r rs v x in
    let all = sum_by-cons (λ (r : SpentRow). cond (holds v x r) r.tolls 0) r rs in
    let rest = weighed v x rs in
    omega (arith, one, all, rest)

-- moved rows have as much
moved_exact : (rs ss : List SpentRow) → IsPermutation rs ss → (v x : ℕ) → tolls_in ss v x ≡ tolls_in rs v x
moved_exact rs ss h v x = weighed v x ss
    ∙ (sum_by-IsPermutation (λ r. cond (holds v x r) r.tolls 0) rs ss h ∙ sym (weighed v x rs))

-- what holds of each row holds where they are moved
moved_all : (P : SpentRow → Type 0) (rs ss : List SpentRow) → IsPermutation rs ss → AllByRecursion P rs →
    AllByRecursion P ss
moved_all P rs ss h all = recursion_from_All P ss (All-permutation P rs ss h (All-from_recursion P rs all))

-- what rises

-- neither equal nor greater is less
less_of : (r : Ordering) → is_eq r ≡ false → is_lt (ordering_reverse r) ≡ false → r ≡ Less
less_of Less e l = refl
less_of Equal e l = cc
less_of Greater e l = cc

-- neither after nor the same is before
before_of : (a b : ℕ × ℕ) → same_owner a b ≡ false → is_lt (owner_cmp b a) ≡ false → owner_cmp a b ≡ Less
before_of a b apart after =
    less_of (owner_cmp a b) (owner_tied a b ∙ apart) (ap is_lt (sym (owner_total.antisymm b a)) ∙ after)

-- rows in the order of their owners
before_by : (r s : SpentRow) (o : Ordering) → o ≡ nat_cmp r.vid s.vid → ordering_then o (nat_cmp r.xway s.xway) ≡ Less →
    IsBefore r s
before_by r s Less p e = inl (ranked r.vid s.vid Less p)
before_by r s Equal p e = inr (ranked r.vid s.vid Equal p, ranked r.xway s.xway Less (sym e))
before_by r s Greater p e = cc

-- a row stands before those of later owners
each_before : (r : SpentRow) (rs : List SpentRow) →
    AllByRecursion (λ k. owner_cmp (owner_of r) k ≡ Less) (map owner_of rs) → AllByRecursion (IsBefore r) rs
each_before r [] h = tt
each_before r (s ∷ ss) h = (before_by r s (nat_cmp r.vid s.vid) refl h.0, each_before r ss h.1)

-- rows of rising owners rise
rise_of : (rs : List SpentRow) → IsStrictlySortedBy owner_cmp (map owner_of rs) → AreRowsRising rs
rise_of [] h = tt
rise_of (r ∷ rs) h = (
  each_before r rs (sorted_head owner_cmp (owner_of r) (map owner_of rs) h),
  rise_of rs
      (sorted_tail owner_cmp (owner_of r) (map owner_of rs) h),
)

-- a row of nothing
no_row : SpentRow
no_row = record { day = 0; vid = 0; xway = 0; tolls = 0 }

-- sorted rows of owners apart rise
sorted_rise : (rs : List SpentRow) → IsSortedByKey owner_of owner_cmp rs → IsDistinct same_owner (map owner_of rs) →
    AreRowsRising rs
sorted_rise rs sorted apart =
    rise_of rs (sorted_from_all_adjacent owner_total (map owner_of rs) (owner_of no_row) (λ k h. step k h))
  where
    step : (k : ℕ) → k + 1 < length (map owner_of rs) →
        owner_cmp (get_or (map owner_of rs) k (owner_of no_row)) (get_or (map owner_of rs) (k + 1) (owner_of no_row))
        ≡ Less
    step k h =
        let size = length-map rs owner_of in
        let inside : k + 1 < length rs = omega (arith, size) in
        let first : k < length rs = omega (arith, size) in
        let before : k < k + 1 = omega arith in
        let here = get_or-map owner_of rs k no_row (owner_of no_row) first in
        let there = get_or-map owner_of rs (k + 1) no_row (owner_of no_row) inside in
        before_of (get_or (map owner_of rs) k (owner_of no_row)) (get_or (map owner_of rs) (k + 1) (owner_of no_row))
        (apart_from_distinct same_owner (map owner_of rs) k (k + 1) (owner_of no_row) apart before h)
        (ap (λ a. is_lt (owner_cmp (get_or (map owner_of rs) (k + 1) (owner_of no_row)) a)) here
        ∙ (ap (λ b. is_lt (owner_cmp b (owner_of (get_or rs k no_row)))) there
        ∙ sorted k no_row (omega arith) inside))

-- listed and put in order, entries are the rows of their map
pub are_rows : (day : ℕ) (es : List ((ℕ × ℕ) × ℕ)) (rows : List SpentRow) → IsDistinct same_owner (keys_of es) →
    IsPermutation (listed day es) rows → IsSortedByKey owner_of owner_cmp rows → AreRowsOf (sums_of es) day rows
are_rows day es rows apart moved sorted = record {
  in_order =
      sorted_rise rows sorted
      (IsDistinct-IsPermutation same_owner same_flip (map owner_of (listed day es)) (map owner_of rows)
      (IsPermutation-map owner_of (listed day es) rows moved) (listed_apart day es apart));
  of_day = moved_all (λ r. r.day ≡ day) (listed day es) rows moved (listed_day day es);
  none_zero = moved_all (λ r. 0 < r.tolls) (listed day es) rows moved (listed_some day es);
  exact = λ v x. moved_exact (listed day es) rows moved v x
      ∙ (listed_exact day es apart v x ∙ ap (λ o. unwrap_or o 0) (sym (get_sums es (v, x))));
}
