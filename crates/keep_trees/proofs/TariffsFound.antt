-- Tariffs that are looked up one expressway after another.
use Rattle.std.proofs.Common.{◌≡◌, ℕ, pos, ◌+◌, ◌<◌, ◌^◌, ◌==◌, nat_lt, true, false, List, [], ◌∷◌, ◌++◌, map, filter}
use Rattle.std.proofs.Common.{refl, sym, ap, subst, ◌∙◌, arith, inl, inr}
use Rattle.std.specs.List.{AllByRecursion}
use Rattle.std.specs.List.Sorted.{IsStrictlySortedBy}
use Rattle.std.specs.declared.cmp.Ordering.TheVariants.{Less, Greater}
use Rattle.std.specs.Ordering.{nat_cmp}
use Rattle.std.specs.Map.{keys_of, values_of}
use Rattle.std.specs.BTreeMap.{insert_entry}
use Rattle.std.proofs.lemmas.Bool.{cases_Bool, eqb-true}
use Rattle.std.proofs.lemmas.Bool.Decides.{nat_tests}
use Rattle.std.proofs.lemmas.List.Elements.{recursion_from_All}
use Rattle.sqlite_value.specs.Order.{Row}
use Rattle.sqlite_btree.specs.Cut.{IsIn}
use Rattle.sqlite_trees.specs.View.{Finds}
use Rattle.sqlite_keyed.proofs.ListLemmas.{filter_none, filter_all, all_weaker, all_unmap}
use Rattle.road_time.specs.declared.tariff.Tariff.{Tariff}
use Rattle.road_time.specs.Rates.{Tariffs, IsTariff, benchmark, same_tariff}
use Rattle.road_time.specs.Tariffs.{IsTariffs, with_tariff}
use Rattle.keep_tables.specs.Codec.{tariff_row}
use Rattle.keep_trees.specs.Own.{tariffs_below}
use Rattle.keep_trees.proofs.Members.{of_filter}
use Rattle.keep_trees.proofs.ListLaws.{is_hit, no_hit}

-- a number that is not one is below it, or not below the next
next : (m n : ℕ) → (m == n) ≡ false → nat_lt m (n + 1) ≡ nat_lt m n
next m n miss = grind (arith, nat_tests, miss)

-- an expressway that has none of its own adds none
stays : (xway : ℕ) (ts : Tariffs) → filter (λ (e : ℕ × Tariff). e.0 == xway) ts ≡ []
    → tariffs_below (xway + 1) ts ≡ tariffs_below xway ts
stays xway [] none = refl
stays xway (e ∷ ts) none =
    elim (cases_Bool (e.0 == xway)) [
      | inl hit ↦ absurd (let bad = rw hit at none in cc)
      | inr miss ↦ let more = stays xway ts (rw miss at none) in
          elim (cases_Bool (nat_lt e.0 xway)) [
            | inl low ↦ rw (next e.0 xway miss, low) (ap (λ (l : Tariffs). e ∷ l) more)
            | inr high ↦ rw (next e.0 xway miss, high) more
          ]
    ]

-- what is above a number is not below the next
not_below : (m n : ℕ) → nat_cmp m n ≡ Less → (k : ℕ) → (m == k) ≡ true → nat_lt n (k + 1) ≡ false
not_below m n less k hit = grind (arith, nat_tests, less, hit)

-- nor below the number itself
nor_below : (m n : ℕ) → nat_cmp m n ≡ Less → (k : ℕ) → (m == k) ≡ true → nat_lt n k ≡ false
nor_below m n less k hit = grind (arith, nat_tests, less, hit)

-- a number is below the next alone
at_one : (m k : ℕ) → (m == k) ≡ true → (nat_lt m k ≡ false) × (nat_lt m (k + 1) ≡ true)
at_one m k hit = (grind (arith, nat_tests, hit), grind (arith, nat_tests, hit))

-- one that has its own adds it at the end
grows : (xway : ℕ) (ts : Tariffs) (e : ℕ × Tariff) → IsStrictlySortedBy nat_cmp (keys_of ts) →
    filter (λ (x : ℕ × Tariff). x.0 == xway) ts ≡ e ∷ [] → tariffs_below (xway + 1) ts ≡ tariffs_below xway ts ++ e ∷ []
unfolding IsStrictlySortedBy
grows xway [] e up only = absurd (cc)
grows xway (x ∷ ts) e up only =
    elim (cases_Bool (x.0 == xway)) [
      | inl hit ↦
          let f : x ∷ filter (λ (y : ℕ × Tariff). y.0 == xway) ts ≡ e ∷ [] = rw hit at only in
          let its : x ≡ e = cc in
          let above = all_unmap (λ k. nat_cmp x.0 k ≡ Less) (λ (y : ℕ × Tariff). y.0) ts up.0 in
          let none : tariffs_below (xway + 1) ts ≡ [] =
          filter_none (λ (y : ℕ × Tariff). nat_lt y.0 (xway + 1)) ts
          (all_weaker _ (λ (y : ℕ × Tariff). nat_lt y.0 (xway + 1) ≡ false)
          (λ y less. not_below x.0 y.0 less xway hit) ts above) in
          let nothing : tariffs_below xway ts ≡ [] =
          filter_none (λ (y : ℕ × Tariff). nat_lt y.0 xway) ts
          (all_weaker _ (λ (y : ℕ × Tariff). nat_lt y.0 xway ≡ false)
          (λ y less. nor_below x.0 y.0 less xway hit) ts above) in
          let here = at_one x.0 xway hit in
          rw (here.0, here.1, none, nothing) (ap (λ (y : ℕ × Tariff). y ∷ []) its)
      | inr miss ↦
          let more = grows xway ts e up.1 (rw miss at only) in
          elim (cases_Bool (nat_lt x.0 xway)) [
            | inl low ↦ rw (next x.0 xway miss, low) (ap (λ (l : Tariffs). x ∷ l) more)
            | inr high ↦ rw (next x.0 xway miss, high) more
          ]
    ]

-- all expressways are before one
abbrev pub AllBefore : Tariffs → ℕ → Type 0
AllBefore ts xway = AllByRecursion (λ (e : ℕ × Tariff). nat_cmp e.0 xway ≡ Less) ts

-- a tariff after all others is put at the end
pub at_end : (ts : Tariffs) (xway : ℕ) (t : Tariff) → AllBefore ts xway
    → insert_entry nat_cmp ts xway t ≡ ts ++ (xway, t) ∷ []
at_end [] xway t before = refl
at_end (e ∷ ts) xway t before = rw (greater e.0 xway before.0) (ap (λ (l : Tariffs). e ∷ l) (at_end ts xway t before.1))
  where
    greater : (m n : ℕ) → nat_cmp m n ≡ Less → nat_cmp n m ≡ Greater
    greater m n less = grind (arith, nat_tests, less)

-- the tariffs below an expressway come before it
all_before : (xway : ℕ) (ts : Tariffs) → AllBefore (tariffs_below xway ts) xway
all_before xway [] = tt
all_before xway (e ∷ ts) =
    elim (cases_Bool (nat_lt e.0 xway))
    [ inl low ↦ rw low (below e.0 xway low, all_before xway ts) | inr high ↦ rw high (all_before xway ts) ]
  where
    below : (m n : ℕ) → nat_lt m n ≡ true → nat_cmp m n ≡ Less
    below m n low = grind (arith, nat_tests, low)

-- what all are, one among them is
own_among : (P : Tariff → Type 0) (ts : Tariffs) (e : ℕ × Tariff) → AllByRecursion P (values_of ts) → IsIn e ts → P e.1
own_among P [] e all at = absurd at
own_among P (x ∷ ts) e all (inl is) = subst (λ (y : ℕ × Tariff). P y.1) (sym is) all.0
own_among P (x ∷ ts) e all (inr more) = own_among P ts e all.1 more

-- a row that is found is that of the expressway's tariff, which is valid
pub record IsOwnRow (ts : Tariffs) (xway : ℕ) (r : Row) : Type 0 where
  pub tariff : Tariff
  pub row_is : r ≡ tariff_row (xway, tariff)
  pub valid : IsTariff tariff
  pub set : with_tariff (tariffs_below xway ts) xway tariff ≡ tariffs_below (xway + 1) ts

-- a row that is found is such a row
pub own_row : (xway : ℕ) (ts : Tariffs) (rows : List Row) (r : Row) → IsTariffs ts → rows ≡ map tariff_row ts
    → Finds rows (pos xway) r true →
    IsOwnRow ts xway r
own_row xway ts rows r are is finds =
    let h = is_hit tariff_row (λ (e : ℕ × Tariff). e.0) (λ e. refl) xway ts rows r is finds in
    let its = of_filter (λ (e : ℕ × Tariff). e.0 == xway) ts h.hit (subst (IsIn h.hit) (sym h.only) (inl refl)) in
    let key : h.hit.0 ≡ xway = eqb-true h.hit.0 xway its.1 in
    let e : h.hit ≡ (xway, h.hit.1) = ap (λ n. (n, h.hit.1)) key in
    let own = own_among (λ t. same_tariff t benchmark ≡ false) ts h.hit
    (recursion_from_All _ (values_of ts) are.own) its.0 in
    record {
      tariff = h.hit.1;
      row_is = h.row_is ∙ ap tariff_row e;
      valid = own_among IsTariff ts h.hit (recursion_from_All _ (values_of ts) are.valid) its.0;
      set = rw own
          (at_end (tariffs_below xway ts) xway h.hit.1 (all_before xway ts)
          ∙ ap (λ (x : ℕ × Tariff). tariffs_below xway ts ++ x ∷ []) (sym e)
          ∙ sym (grows xway ts h.hit are.in_order h.only));
    }

-- where none is found, the expressway has none of its own
pub no_own_row : (xway : ℕ) (ts : Tariffs) (rows : List Row) (r : Row) → rows ≡ map tariff_row ts
    → Finds rows (pos xway) r false →
    tariffs_below xway ts ≡ tariffs_below (xway + 1) ts
no_own_row xway ts rows r is finds =
    sym (stays xway ts (no_hit tariff_row (λ (e : ℕ × Tariff). e.0) (λ e. refl) xway ts rows r is finds))

-- none is below the first, and all are below the last
pub none_below : (ts : Tariffs) → [] ≡ tariffs_below 0 ts
none_below [] = refl
none_below (e ∷ ts) = rw (lowest e.0) (none_below ts)
  where
    lowest : (n : ℕ) → nat_lt n 0 ≡ false
    lowest n = grind (arith, nat_tests)

-- each expressway is below 256
pub all_below : (ts : Tariffs) → AllByRecursion (λ e. e.0 < 2 ^ 8) ts → tariffs_below 256 ts ≡ ts
all_below ts fit =
    filter_all (λ (e : ℕ × Tariff). nat_lt e.0 256) ts
    (all_weaker _ (λ (e : ℕ × Tariff). nat_lt e.0 256 ≡ true) (λ e low. under e.0 low) ts fit)
  where
    under : (n : ℕ) → n < 2 ^ 8 → nat_lt n 256 ≡ true
    under n low = grind (arith, nat_tests, low)
