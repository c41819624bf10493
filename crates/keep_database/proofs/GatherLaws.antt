-- Tariffs that are set one after another, in the order of their expressways.
use Rattle.std.proofs.Common.{◌≡◌, ℕ, ◌<◌, ◌^◌, false, [], ◌∷◌, ◌++◌, refl, sym, ap, ◌∙◌, arith, append-nil}
use Rattle.std.proofs.Common.{append_assoc}
use Rattle.std.specs.List.{AllByRecursion, fold}
use Rattle.std.specs.List.Sorted.{IsStrictlySortedBy}
use Rattle.std.specs.declared.cmp.Ordering.TheVariants.{Less, Greater}
use Rattle.std.specs.Ordering.{nat_cmp}
use Rattle.std.specs.Map.{keys_of, values_of}
use Rattle.std.specs.BTreeMap.{insert_entry}
use Rattle.std.proofs.lemmas.Bool.Decides.{nat_tests}
use Rattle.std.proofs.lemmas.List.Elements.{recursion_from_All}
use Rattle.sqlite_keyed.proofs.ListLemmas.{all_unmap}
use Rattle.road_time.specs.declared.tariff.Tariff.{Tariff}
use Rattle.road_time.specs.Rates.{Tariffs, IsTariff, benchmark, same_tariff}
use Rattle.road_time.specs.Tariffs.{IsTariffs}
use Rattle.keep_database.specs.Exact.{with_entry}
use Rattle.keep_database.proofs.RowItems.{all_both}

-- all expressways are before one
abbrev AllBefore : Tariffs → ℕ → Type 0
AllBefore ts xway = AllByRecursion (λ (e : ℕ × Tariff). nat_cmp e.0 xway ≡ Less) ts

-- a tariff after all others is put at the end
at_end : (ts : Tariffs) (xway : ℕ) (t : Tariff) → AllBefore ts xway →
    insert_entry nat_cmp ts xway t ≡ ts ++ (xway, t) ∷ []
at_end [] xway t before = refl
at_end (e ∷ ts) xway t before = rw (greater e.0 xway before.0) (ap (λ l. e ∷ l) (at_end ts xway t before.1))
  where
    greater : (m n : ℕ) → nat_cmp m n ≡ Less → nat_cmp n m ≡ Greater
    greater m n less = grind (arith, nat_tests, less)

-- one more is before a later one
before_too : (ts : Tariffs) (e : ℕ × Tariff) (xway : ℕ) → AllBefore ts xway → nat_cmp e.0 xway ≡ Less →
    AllBefore (ts ++ e ∷ []) xway
before_too [] e xway before less = (less, tt)
before_too (x ∷ ts) e xway before less = (before.0, before_too ts e xway before.1 less)

-- all are before each of the others
all_before : (acc : Tariffs) (e : ℕ × Tariff) (ts : Tariffs) → AllByRecursion (λ (x : ℕ × Tariff). AllBefore acc x.0) ts
    → AllByRecursion (λ k. nat_cmp e.0 k ≡ Less) (keys_of ts) →
    AllByRecursion (λ (x : ℕ × Tariff). AllBefore (acc ++ e ∷ []) x.0) ts
all_before acc e [] all above = tt
all_before acc e (x ∷ ts) all above = (before_too acc e x.0 all.0 above.0, all_before acc e ts all.1 above.1)

-- no tariff is the benchmark's
abbrev AreOwn : Tariffs → Type 0
AreOwn ts = AllByRecursion (λ t. same_tariff t benchmark ≡ false) (values_of ts)

-- those that are set after others follow them
gathered_after : (acc ts : Tariffs) → IsStrictlySortedBy nat_cmp (keys_of ts) → AreOwn ts →
    AllByRecursion (λ (x : ℕ × Tariff). AllBefore acc x.0) ts → fold with_entry acc ts ≡ acc ++ ts
unfolding IsStrictlySortedBy
gathered_after acc [] up own all = sym (append-nil acc)
gathered_after acc (e ∷ ts) up own all =
    let one : with_entry acc e ≡ acc ++ e ∷ [] = rw own.0 (at_end acc e.0 e.1 all.0) in
    ap (λ l. fold with_entry l ts) one ∙ gathered_after (acc ++ e ∷ []) ts up.1 own.1 (all_before acc e ts all.1 up.0)
    ∙ append_assoc acc (e ∷ []) ts

-- nothing comes before
after_nothing : (ts : Tariffs) → AllByRecursion (λ (x : ℕ × Tariff). AllBefore [] x.0) ts
after_nothing [] = tt
after_nothing (e ∷ ts) = (tt, after_nothing ts)

-- tariffs that are set in order are those tariffs
pub gathers : (ts : Tariffs) → IsTariffs ts → fold with_entry [] ts ≡ ts
gathers ts are =
    gathered_after [] ts are.in_order (recursion_from_All (λ t. same_tariff t benchmark ≡ false) (values_of ts) are.own)
    (after_nothing ts)

-- each has an expressway and a valid tariff
pub entries_valid : (ts : Tariffs) → IsTariffs ts → AllByRecursion (λ e. e.0 < 2 ^ 8) ts →
    AllByRecursion (λ (e : ℕ × Tariff). (e.0 < 2 ^ 8) × IsTariff e.1) ts
entries_valid ts are low =
    all_both (λ (e : ℕ × Tariff). e.0 < 2 ^ 8) (λ (e : ℕ × Tariff). IsTariff e.1) ts low
    (all_unmap IsTariff (λ (e : ℕ × Tariff). e.1) ts (recursion_from_All IsTariff (values_of ts) are.valid))
