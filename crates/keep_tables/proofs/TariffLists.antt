-- Tariffs as lists, and as the rows of their table.
use Rattle.std.proofs.Common.{◌≡◌, inl, inr, ℕ, pos, ◌==◌, not, true, false, cond, [], ◌∷◌, map, filter, None, refl}
use Rattle.std.proofs.Common.{sym, ap, subst, ◌∙◌, arith}
use Rattle.std.specs.List.{AllByRecursion}
use Rattle.std.specs.List.Sorted.{IsStrictlySortedBy}
use Rattle.std.specs.declared.cmp.Ordering.{Ordering}
use Rattle.std.specs.declared.cmp.Ordering.TheVariants.{Less, Equal, Greater}
use Rattle.std.specs.Ordering.{nat_cmp, int_cmp, is_eq, match_ordering, ordering_reverse}
use Rattle.std.specs.Cmp.{nat_cmp_total}
use Rattle.std.specs.Map.{keys_of, remove_entry, lookup}
use Rattle.std.specs.BTreeMap.{is_at, insert_entry}
use Rattle.std.proofs.lemmas.Bool.{cases_Bool}
use Rattle.std.proofs.lemmas.Bool.Decides.{nat_tests}
use Rattle.sqlite_value.specs.declared.value.Value.TheVariants.{Int}
use Rattle.sqlite_value.specs.Order.{Row}
use Rattle.sqlite_value.proofs.OrderLemmas.{value_cmp-Int}
use Rattle.sqlite_trees.specs.Tree.{put_row, without_rowid, has_rowid}
use Rattle.sqlite_keyed.proofs.ListLemmas.{filter-map, filter_same, all_weaker}
use Rattle.road_time.specs.declared.tariff.Tariff.{Tariff}
use Rattle.road_time.specs.Rates.{Tariffs}
use Rattle.keep_tables.specs.Codec.{tariff_row}

-- the tariffs of the other expressways
abbrev pub others : ℕ → Tariffs → Tariffs
others xway ts = filter (λ e. not (e.0 == xway)) ts

-- keys that are tied are the same
equal_key : (m n : ℕ) → nat_cmp m n ≡ Equal → m ≡ n
equal_key m n = grind (arith, nat_tests)

-- two keys are tied where they are the same
same_key : (m n : ℕ) → is_eq (nat_cmp m n) ≡ (n == m)
same_key m n = grind (arith, nat_tests)

-- a lesser key is another
less_apart : (m n : ℕ) → nat_cmp m n ≡ Less → not (n == m) ≡ true
less_apart m n = grind (arith, nat_tests)

-- where all keys are above one, none is it
none_equal : (xway : ℕ) (ts : Tariffs) → AllByRecursion (λ k. nat_cmp xway k ≡ Less) (keys_of ts) → others xway ts ≡ ts
none_equal xway [] above = refl
none_equal xway (e ∷ ts) above = rw (less_apart xway e.0 above.0) (ap (λ l. e ∷ l) (none_equal xway ts above.1))

-- what is below a key is below those above it
above_all : (k m : ℕ) (ts : Tariffs) → nat_cmp k m ≡ Less → AllByRecursion (λ n. nat_cmp m n ≡ Less) (keys_of ts) →
    AllByRecursion (λ n. nat_cmp k n ≡ Less) (keys_of ts)
above_all k m ts less =
    all_weaker (λ n. nat_cmp m n ≡ Less) (λ n. nat_cmp k n ≡ Less) (λ n. nat_cmp_total.trans k m n less) (keys_of ts)

-- what is left without a key
pub taken_is : (xway : ℕ) (ts : Tariffs) → IsStrictlySortedBy nat_cmp (keys_of ts) →
    remove_entry (is_at (nat_cmp xway)) ts ≡ others xway ts
unfolding IsStrictlySortedBy
taken_is xway [] up = refl
taken_is xway (e ∷ ts) up = go (nat_cmp xway e.0) refl (taken_is xway ts up.1)
  where
    go : (o : Ordering) → nat_cmp xway e.0 ≡ o → remove_entry (is_at (nat_cmp xway)) ts ≡ others xway ts →
        cond (is_eq (nat_cmp xway e.0)) ts (e ∷ remove_entry (is_at (nat_cmp xway)) ts) ≡ cond (not (e.0 == xway))
        (e ∷ others xway ts) (others xway ts)
    go Less is more = rw (less_apart xway e.0 is, is) (ap (λ l. e ∷ l) more)
    go Equal is more =
        let same = equal_key xway e.0 is in
        let hit : (e.0 == xway) ≡ true = sym (same_key xway e.0) ∙ ap is_eq is in
        rw (hit, is)
        (sym (none_equal xway ts
        (subst (λ k. AllByRecursion (λ n. nat_cmp k n ≡ Less) (keys_of ts)) (sym same) up.0)))
    go Greater is more =
        let miss : (e.0 == xway) ≡ false = sym (same_key xway e.0) ∙ ap is_eq is in
        rw (miss, is) (ap (λ l. e ∷ l) more)

-- the others have none for the expressway
pub lookup_others : (xway : ℕ) (ts : Tariffs) → lookup (is_at (nat_cmp xway)) (others xway ts) ≡ None
lookup_others xway [] = refl
lookup_others xway (e ∷ ts) = elim (cases_Bool (e.0 == xway)) [
  | inl hit ↦ rw hit (lookup_others xway ts)
  | inr miss ↦ rw (miss, same_key xway e.0, miss) (lookup_others xway ts)
]

-- a key below all others is put in front
in_front : (xway : ℕ) (t : Tariff) (ts : Tariffs) → AllByRecursion (λ k. nat_cmp xway k ≡ Less) (keys_of ts) →
    insert_entry nat_cmp ts xway t ≡ (xway, t) ∷ ts
in_front xway t [] above = refl
in_front xway t (e ∷ ts) above = rw above.0 refl

-- a key is set as well after it was taken away
pub set_others : (xway : ℕ) (t : Tariff) (ts : Tariffs) → IsStrictlySortedBy nat_cmp (keys_of ts) →
    insert_entry nat_cmp (others xway ts) xway t ≡ insert_entry nat_cmp ts xway t
unfolding IsStrictlySortedBy
set_others xway t [] up = refl
set_others xway t (e ∷ ts) up = go (nat_cmp xway e.0) refl (set_others xway t ts up.1)
  where
    go : (o : Ordering) → nat_cmp xway e.0 ≡ o →
        insert_entry nat_cmp (others xway ts) xway t ≡ insert_entry nat_cmp ts xway t →
        insert_entry nat_cmp (others xway (e ∷ ts)) xway t ≡ insert_entry nat_cmp (e ∷ ts) xway t
    go Less is more =
        ap (λ l. insert_entry nat_cmp l xway t) (none_equal xway (e ∷ ts) (is, above_all xway e.0 ts is up.0))
    go Equal is more =
        let same = equal_key xway e.0 is in
        let hit : not (e.0 == xway) ≡ false = ap not (sym (same_key xway e.0) ∙ ap is_eq is) in
        let above = subst (λ k. AllByRecursion (λ n. nat_cmp k n ≡ Less) (keys_of ts)) (sym same) up.0 in
        let first : insert_entry nat_cmp (others xway (e ∷ ts)) xway t ≡ (xway, t) ∷ ts =
        rw hit (ap (λ l. insert_entry nat_cmp l xway t) (none_equal xway ts above) ∙ in_front xway t ts above) in
        let second : insert_entry nat_cmp (e ∷ ts) xway t ≡ (e.0, t) ∷ ts = rw is refl in
        first ∙ ap (λ k. (k, t) ∷ ts) same ∙ sym second
    go Greater is more =
        let miss : not (e.0 == xway) ≡ true = ap not (sym (same_key xway e.0) ∙ ap is_eq is) in
        rw (miss, is) (ap (λ l. e ∷ l) more)

-- the row of an expressway has its number
numbered_row : (xway : ℕ) (e : ℕ × Tariff) → has_rowid (pos xway) (tariff_row e) ≡ (e.0 == xway)
numbered_row xway e = ap is_eq (value_cmp-Int (pos e.0) (pos xway)) ∙ grind (arith, nat_tests)

-- without the row of an expressway, the others are left
pub row_taken : (xway : ℕ) (ts : Tariffs) →
    without_rowid (pos xway) (map tariff_row ts) ≡ map tariff_row (others xway ts)
row_taken xway ts = filter-map (λ r. not (has_rowid (pos xway) r)) tariff_row ts
    ∙ ap (map tariff_row) (filter_same _ _ (λ e. ap not (numbered_row xway e)) ts)

-- the order of whole numbers, turned round
turned : (m n : ℕ) → int_cmp (pos n) (pos m) ≡ ordering_reverse (nat_cmp m n)
turned m n = grind (arith, nat_tests)

-- the row of a tariff is put in its place
pub row_put : (xway : ℕ) (t : Tariff) (ts : Tariffs) →
    put_row (tariff_row (xway, t)) (map tariff_row ts) ≡ map tariff_row (insert_entry nat_cmp ts xway t)
row_put xway t [] = refl
row_put xway t (e ∷ ts) =
    rw (value_cmp-Int (pos e.0) (pos xway), turned xway e.0) (go (nat_cmp xway e.0) refl (row_put xway t ts))
  where
    go : (o : Ordering) → nat_cmp xway e.0 ≡ o →
        put_row (tariff_row (xway, t)) (map tariff_row ts) ≡ map tariff_row (insert_entry nat_cmp ts xway t)
        → match_ordering (ordering_reverse o) (tariff_row e ∷ put_row (tariff_row (xway, t)) (map tariff_row ts))
        (tariff_row (xway, t) ∷ map tariff_row ts) (tariff_row (xway, t) ∷ tariff_row e ∷ map tariff_row ts)
        ≡ map tariff_row (match_ordering o ((xway, t) ∷ e ∷ ts) ((e.0, t) ∷ ts) (e ∷ insert_entry nat_cmp ts xway t))
    go Less is more = refl
    go Equal is more = ap (λ k. tariff_row (k, t) ∷ map tariff_row ts) (equal_key xway e.0 is)
    go Greater is more = ap (λ l. tariff_row e ∷ l) more

-- where none has the key, all are left
pub no_hits : (xway : ℕ) (ts : Tariffs) → filter (λ e. e.0 == xway) ts ≡ [] → others xway ts ≡ ts
no_hits xway [] none = refl
no_hits xway (e ∷ ts) none = elim (cases_Bool (e.0 == xway)) [
  | inl hit ↦ absurd (let bad = rw hit at none in cc)
  | inr miss ↦ rw miss (ap (λ l. e ∷ l) (no_hits xway ts (rw miss at none)))
]

-- taking away twice is taking away once
pub others_twice : (xway : ℕ) (ts : Tariffs) → others xway (others xway ts) ≡ others xway ts
others_twice xway [] = refl
others_twice xway (e ∷ ts) = elim (cases_Bool (e.0 == xway)) [
  | inl hit ↦ rw hit (others_twice xway ts)
  | inr miss ↦ rw (miss, miss) (ap (λ l. e ∷ l) (others_twice xway ts))
]

-- the numbers of the rows that have the key
pub hits_are : (xway : ℕ) (ts : Tariffs) → AllByRecursion (λ (r : Row). r ≡ Int (pos xway) ∷ [])
    (map (λ (e : ℕ × Tariff). Int (pos e.0) ∷ []) (filter (λ e. e.0 == xway) ts))
hits_are xway [] = tt
hits_are xway (e ∷ ts) = elim (cases_Bool (e.0 == xway)) [
  | inl hit ↦ rw hit (ap (λ k. Int (pos k) ∷ []) (numbers hit), hits_are xway ts)
  | inr miss ↦ rw miss (hits_are xway ts)
]
  where
    numbers : (e.0 == xway) ≡ true → e.0 ≡ xway
    numbers hit = grind (arith, nat_tests, hit)
