-- Tariffs that are told one expressway after another, whatever the rows are.
use Rattle.std.proofs.Common.{◌≡◌, ◌⊎◌, ℕ, pos, ◌+◌, ◌<◌, ◌==◌, ◌&&◌, true, false, List, [], ◌∷◌, ◌++◌, filter, Some}
use Rattle.std.proofs.Common.{None, Option, Less, unwrap_or, refl, sym, ap, subst, ◌∙◌, arith, inl, inr, is_eq}
use Rattle.std.specs.List.{AllByRecursion}
use Rattle.std.specs.Ordering.{nat_cmp}
use Rattle.std.specs.Map.{lookup, remove_entry}
use Rattle.std.specs.BTreeMap.{is_at}
use Rattle.std.proofs.lemmas.Bool.{cases_Bool, and_parts, eqb-true}
use Rattle.std.proofs.lemmas.Bool.Decides.{nat_tests}
use Rattle.sqlite_value.specs.Order.{Row}
use Rattle.sqlite_trees.specs.Tree.{has_rowid}
use Rattle.sqlite_trees.specs.View.{Finds}
use Rattle.road_time.specs.declared.tariff.Tariff.{Tariff}
use Rattle.road_time.specs.Rates.{Tariffs, benchmark, same_tariff, tariff_of}
use Rattle.road_time.specs.Tariffs.{with_tariff}
use Rattle.keep_trees.specs.Tells.{HasTariff, IsToldTariff, AreToldBelow}
use Rattle.keep_trees.proofs.TariffsFound.{at_end}

-- all expressways are below one
abbrev AreBelow : Tariffs → ℕ → Type 0
AreBelow ts xway = AllByRecursion (λ (e : ℕ × Tariff). e.0 < xway) ts

-- a lesser number is another
is_other : (m n : ℕ) → m < n → is_eq (nat_cmp n m) ≡ false
is_other m n low = grind (arith, nat_tests, low)

-- so is a greater one
is_another : (m n : ℕ) → m < n → is_eq (nat_cmp m n) ≡ false
is_another m n low = grind (arith, nat_tests, low)

-- a number is itself
is_itself : (n : ℕ) → is_eq (nat_cmp n n) ≡ true
is_itself n = grind (arith, nat_tests)

-- above all others an expressway has none of its own
none_at : (ts : Tariffs) (n : ℕ) → AreBelow ts n → lookup (is_at (nat_cmp n)) ts ≡ None
none_at [] n low = refl
none_at (e ∷ ts) n low = rw (is_other e.0 n low.0) (none_at ts n low.1)

-- so nothing of it is taken away
none_gone : (ts : Tariffs) (n : ℕ) → AreBelow ts n → remove_entry (is_at (nat_cmp n)) ts ≡ ts
none_gone [] n low = refl
none_gone (e ∷ ts) n low = rw (is_other e.0 n low.0) (ap (λ (l : Tariffs). e ∷ l) (none_gone ts n low.1))

-- one at the end is found there
last_at : (ts : Tariffs) (n : ℕ) (t : Tariff) → AreBelow ts n
    → lookup (is_at (nat_cmp n)) (ts ++ (n, t) ∷ []) ≡ Some t
last_at [] n t low = rw (is_itself n) refl
last_at (e ∷ ts) n t low = rw (is_other e.0 n low.0) (last_at ts n t low.1)

-- and no other is found otherwise for it
same_at : (ts : Tariffs) (x n : ℕ) (t : Tariff) → x < n
    → lookup (is_at (nat_cmp x)) (ts ++ (n, t) ∷ []) ≡ lookup (is_at (nat_cmp x)) ts
same_at [] x n t low = rw (is_another x n low) refl
same_at (e ∷ ts) x n t low =
    elim (cases_Bool (is_eq (nat_cmp x e.0)))
    [ inl hit ↦ rw hit refl | inr miss ↦ rw miss (same_at ts x n t low) ]

-- what is below one is below the next
still_below : (ts : Tariffs) (n : ℕ) → AreBelow ts n → AreBelow ts (n + 1)
still_below [] n low = tt
still_below (e ∷ ts) n low = ((let here = low.0 in omega arith), still_below ts n low.1)

-- with one at the end all are below the next
below_next : (ts : Tariffs) (n : ℕ) (t : Tariff) → AreBelow ts n → AreBelow (ts ++ (n, t) ∷ []) (n + 1)
below_next [] n t low = (omega arith, tt)
below_next (e ∷ ts) n t low = ((let here = low.0 in omega arith), below_next ts n t low.1)

-- all before an expressway come before it in order
come_before : (ts : Tariffs) (n : ℕ) → AreBelow ts n
    → AllByRecursion (λ (e : ℕ × Tariff). nat_cmp e.0 n ≡ Less) ts
come_before [] n low = tt
come_before (e ∷ ts) n low = (less e.0 n low.0, come_before ts n low.1)
  where
    less : (m k : ℕ) → m < k → nat_cmp m k ≡ Less
    less m k here = grind (arith, nat_tests, here)

-- a tariff by its parts
abbrev tariff_with : ℕ → ℕ → ℕ → Tariff
tariff_with c s f = record { crowd = c; speed = s; factor = f }

-- a tariff that is the same as the benchmark's is the benchmark's
is_benchmark : (t : Tariff) → same_tariff t benchmark ≡ true → t ≡ benchmark
is_benchmark t same =
    let one = and_parts (t.crowd == 50) (t.speed == 40 && t.factor == 2) same in
    let two = and_parts (t.speed == 40) (t.factor == 2) one.1 in
    ap (λ c. tariff_with c t.speed t.factor) (eqb-true t.crowd 50 one.0)
    ∙ ap (λ s. tariff_with 50 s t.factor) (eqb-true t.speed 40 two.0)
    ∙ ap (λ f. tariff_with 50 40 f) (eqb-true t.factor 2 two.1)

module _ (rows : List Row) (n : ℕ) (ts : Tariffs) (told : AreToldBelow rows n ts) where
  -- each below the next is below one, or it is that one
  each_next : (later : Tariffs) → ((x : ℕ) → x < n → IsToldTariff rows x (tariff_of later x))
      → IsToldTariff rows n (tariff_of later n)
      → (x : ℕ) → x < n + 1 → IsToldTariff rows x (tariff_of later x)
  each_next later before here x low =
      elim (parts x n low) [
        | inl less ↦ before x less
        | inr same ↦ subst (λ y. IsToldTariff rows y (tariff_of later y)) (sym same) here
      ]
    where
      parts : (m k : ℕ) → m < k + 1 → (m < k) ⊎ (m ≡ k)
      parts m k h = grind (arith, nat_tests, h)

  -- an expressway without a row has the benchmark's
  pub told_without : filter (has_rowid (pos n)) rows ≡ [] → AreToldBelow rows (n + 1) ts
  told_without none =
      record {
        below = still_below ts n told.below;
        each = each_next ts told.each
            (inr (none, ap (λ (o : Option Tariff). unwrap_or o benchmark) (none_at ts n told.below)));
      }

  -- one with a row has the tariff of the row
  pub told_with : (row : Row) (t : Tariff) → Finds rows (pos n) row true → HasTariff row t
      → AreToldBelow rows (n + 1) (with_tariff ts n t)
  told_with row t finds has =
      elim (cases_Bool (same_tariff t benchmark)) [
        | inl same ↦
            let gone : with_tariff ts n t ≡ ts = rw same (none_gone ts n told.below) in
            let is : tariff_of ts n ≡ t =
            ap (λ (o : Option Tariff). unwrap_or o benchmark) (none_at ts n told.below) ∙ sym (is_benchmark t same) in
            subst (AreToldBelow rows (n + 1)) (sym gone)
            (record {
              below = still_below ts n told.below;
              each = each_next ts told.each (inl (row, finds, subst (HasTariff row) (sym is) has));
            })
        | inr own ↦
            let longer : Tariffs = ts ++ (n, t) ∷ [] in
            let ends : with_tariff ts n t ≡ longer = rw own (at_end ts n t (come_before ts n told.below)) in
            let is : tariff_of longer n ≡ t =
            ap (λ (o : Option Tariff). unwrap_or o benchmark) (last_at ts n t told.below) in
            subst (AreToldBelow rows (n + 1)) (sym ends)
            (record {
              below = below_next ts n t told.below;
              each = each_next longer
                  (λ x low. subst (IsToldTariff rows x)
                  (sym (ap (λ (o : Option Tariff). unwrap_or o benchmark) (same_at ts x n t low))) (told.each x low))
                  (inl (row, finds, subst (HasTariff row) (sym is) has));
            })
      ]

-- before the first none is told
pub none_told : (rows : List Row) (ts : Tariffs) → ts ≡ [] → AreToldBelow rows 0 ts
none_told rows ts is =
    subst (AreToldBelow rows 0) (sym is) (record { below = tt; each = λ x low. absurd (omega arith) })
