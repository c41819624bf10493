-- the mean of five averages: its numbers stay small, and a flow more has its part in it
use Rattle.std.proofs.Common.{◌≡◌, ℕ, zero, suc, ◌-◌, ◌+◌, ◌*◌, ◌^◌, ◌<◌, ◌≤◌, List, [], ◌∷◌, ◌++◌, length, take}
use Rattle.std.proofs.Common.{get_or, map, refl, arith}
use Rattle.std.specs.List.{filter, fold}
use Rattle.std.proofs.lemmas.List.{map_more, append-nil, length_push}
use Rattle.std.proofs.lemmas.List.Elements.{filter-append}
use Rattle.std.proofs.lemmas.List.Sums.{fold_push}
use Rattle.std.proofs.Math.Nat.{mul-le-mul, pow-suc, add-zero, add-suc}
use Rattle.std.proofs.lemmas.Bool.{cond-true, cond-false, lt-ltb, le-ltb}
use Rattle.road_time.specs.Lav.{CarFlow, has_cars, plus_average}

-- one factor more
pub den_step : (den c p : ℕ) → den ≤ p → c ≤ 500000 → den * c ≤ p * 500000
den_step den c p h g = mul-le-mul h g

-- powers grow
grows : (i k : ℕ) → 500000 ^ i ≤ 500000 ^ (i + k)
grows i zero = rw (add-zero i) (omega arith)
grows i (suc k) = rw (add-suc i k, pow-suc 500000 (i + k)) (omega (arith, grows i k))

-- a greater power
pub pow_few : (i n : ℕ) → i ≤ n → 500000 ^ i ≤ 500000 ^ n
pow_few i n h =
    let e : i + (n - i) ≡ n = omega arith in
    rw e at (grows i (n - i))

-- five denominators fit 128 bits
pub den_fits : (den c i : ℕ) → i < 5 → den ≤ 500000 ^ i → c ≤ 500000 → den * c < 2 ^ 128
den_fits den c i h hd hc =
    let p : 500000 ^ i ≤ 62500000000000000000000 = pow_few i 4 (omega arith) in
    let u : den ≤ 62500000000000000000000 = omega arith in
    let q : den * c ≤ 62500000000000000000000 * 500000 = mul-le-mul u hc in
    omega arith

-- the whole denominator fits 101 bits
pub whole_small : (den busy i : ℕ) → i ≤ 5 → busy ≤ i → den ≤ 500000 ^ i → 12 * busy * den ≤ 2 ^ 101
whole_small den busy i h hb hd =
    let p : 500000 ^ i ≤ 31250000000000000000000000000 = pow_few i 5 h in
    let u : 12 * busy ≤ 60 = omega arith in
    let v : den ≤ 31250000000000000000000000000 = omega arith in
    let q : 12 * busy * den ≤ 60 * 31250000000000000000000000000 = mul-le-mul u v in
    omega (arith, q)

-- and so 128 bits
pub whole_fits : (den busy i : ℕ) → i ≤ 5 → busy ≤ i → den ≤ 500000 ^ i → 12 * busy * den < 2 ^ 128
whole_fits den busy i h hb hd = let q = whole_small den busy i h hb hd in omega (arith, q)

-- the sum of one more flow
sum_more : (done : List CarFlow) (f : CarFlow) (num den : ℕ) →
    fold plus_average (record { num = 0; den = 1 }) done ≡ record { num = num; den = den } →
    fold plus_average (record { num = 0; den = 1 }) (done ++ f ∷ [])
    ≡ record { num = num * f.cars + f.speeds12 * den; den = den * f.cars }
sum_more done f num den h = rw (fold_push plus_average (record { num = 0; den = 1 }) done f, h) refl

module _ {X : Type 0} (shown : X → CarFlow) (flows : List X) (i : ℕ) (d : X) where
  -- the flow that comes next
  abbrev next : CarFlow
  next = shown (get_or flows i d)

  -- the flows with cars among the first so many
  abbrev with_cars : ℕ → List CarFlow
  with_cars n = filter has_cars (map shown (take n flows))

  -- one more flow
  flows_more : i < length flows → with_cars (i + 1) ≡ with_cars i ++ filter has_cars (next ∷ [])
  flows_more h =
      rw (map_more shown flows i d h)
      (filter-append has_cars (map shown (take i flows)) (next ∷ []))

  module _ (num den busy : ℕ) (within : i < length flows)
      (sum : fold plus_average (record { num = 0; den = 1 }) (with_cars i) ≡ record { num = num; den = den })
      (count : length (with_cars i) ≡ busy) where
    -- a flow with cars counts
    yes : 0 < next.cars → filter has_cars (next ∷ []) ≡ next ∷ []
    yes h = cond-true (has_cars next) _ _ (lt-ltb 0 next.cars h)

    -- one without cars is left out
    no : next.cars ≤ 0 → filter has_cars (next ∷ []) ≡ []
    no h = cond-false (has_cars next) _ _ (le-ltb 0 next.cars h)

    -- the sum with a flow that has cars
    pub sum_yes : 0 < next.cars → fold plus_average (record { num = 0; den = 1 }) (with_cars (i + 1))
        ≡ record { num = num * next.cars + next.speeds12 * den; den = den * next.cars }
    sum_yes h = rw (flows_more within, yes h) (sum_more (with_cars i) next num den sum)

    -- and the number of flows
    pub count_yes : 0 < next.cars → length (with_cars (i + 1)) ≡ busy + 1
    count_yes h = rw (flows_more within, yes h, length_push, count) refl

    -- the sum with a flow that has none
    pub sum_no : next.cars ≤ 0 →
        fold plus_average (record { num = 0; den = 1 }) (with_cars (i + 1)) ≡ record { num = num; den = den }
    sum_no h = rw (flows_more within, no h, append-nil) sum

    -- and the number of flows
    pub count_no : next.cars ≤ 0 → length (with_cars (i + 1)) ≡ busy
    count_no h = rw (flows_more within, no h, append-nil) count

-- what holds of five holds of their list
pub all_five : {X : Type 0} (P : X → Type 0) (a b c d e : X) → P a → P b → P c → P d → P e → (i : ℕ) (z : X) →
    i < 5 → P (get_or (a ∷ b ∷ c ∷ d ∷ e ∷ []) i z)
all_five P a b c d e p q r s t zero z h = p
all_five P a b c d e p q r s t (suc zero) z h = q
all_five P a b c d e p q r s t (suc (suc zero)) z h = r
all_five P a b c d e p q r s t (suc (suc (suc zero))) z h = s
all_five P a b c d e p q r s t (suc (suc (suc (suc zero)))) z h = t
all_five P a b c d e p q r s t (suc (suc (suc (suc (suc n))))) z h = absurd (omega arith)
