-- the numbers of the mean of five averages stay small
use Rattle.std.proofs.Common.{◌≡◌, ℕ, ◌+◌, ◌*◌, ◌^◌, ◌<◌, ◌≤◌, List, arith, ap, subst, Some}
use Rattle.std.proofs.Math.Nat.{mul-le-mul}
use Rattle.road_time.specs.declared.road.Frac.{Frac}
use Rattle.road_time.specs.declared.road.Tuple.{Tuple}
use Rattle.road_time.specs.declared.road.Stretch.{Stretch}
use Rattle.road_time.specs.Tuples.{reports}
use Rattle.road_time.specs.Notes.{cars}
use Rattle.road_time.specs.Tolls.{notes_of}
use Rattle.road_time.specs.Fits.{IsDay}
use Rattle.road_time.proofs.FitLaws.{cars_few_day}
use Rattle.road_time.specs.Lav.{flow_at}
use Rattle.road_rules.specs.declared.flows.Flow.{Flow as CodeFlow}
use Rattle.road_rules.specs.Flows.{shown_flow}
use Rattle.road_time.proofs.MeanLaws.{pow_few, whole_small as whole_few}
use Rattle.road_time.proofs.EachLaws.{some_is}

pub num_step : (num s den c i p : ℕ) → num ≤ 3060 * i * p → s ≤ 3060 * c → den ≤ p → c ≤ 500000 →
    num * c + s * den ≤ 3060 * (i + 1) * (p * 500000)
num_step num s den c i p hn hs hd hc =
    let a : num * c ≤ 3060 * i * p * 500000 = mul-le-mul hn hc in
    let b : s * den ≤ 3060 * 500000 * p = mul-le-mul (omega arith) hd in
    let d : 3060 * (i + 1) * (p * 500000) ≡ 3060 * i * p * 500000 + 3060 * 500000 * p = grind arith in
    omega arith

pub num_skip : (num i p : ℕ) → num ≤ 3060 * i * p → num ≤ 3060 * (i + 1) * (p * 500000)
num_skip num i p h =
    let d : 3060 * (i + 1) * (p * 500000) ≡ 500000 * (3060 * i * p) + 3060 * 500000 * p = grind arith in
    omega arith

below_five : (i p x : ℕ) → i < 5 → p ≤ 62500000000000000000000 → x ≤ 3060 * (i + 1) * (p * 500000) →
    x ≤ 478125000000000000000000000000000
below_five i p x h g e =
    let u : 3060 * (i + 1) ≤ 15300 = omega arith in
    let v : p * 500000 ≤ 31250000000000000000000000000 = omega arith in
    let a : 3060 * (i + 1) * (p * 500000) ≤ 15300 * 31250000000000000000000000000 = mul-le-mul u v in
    omega arith

pub num_fits : (num s den c i : ℕ) → i < 5 → num ≤ 3060 * i * 500000 ^ i → s ≤ 3060 * c → den ≤ 500000 ^ i → c ≤ 500000
    → num * c + s * den < 2 ^ 128
num_fits num s den c i h hn hs hd hc =
    let p : 500000 ^ i ≤ 62500000000000000000000 = pow_few i 4 (omega arith) in
    omega (arith, below_five i (500000 ^ i) (num * c + s * den) h p (num_step num s den c i (500000 ^ i) hn hs hd hc))

-- the whole denominator fits 120 bits
pub whole_small : (den busy i : ℕ) → i ≤ 5 → busy ≤ i → den ≤ 500000 ^ i → 12 * busy * den < 2 ^ 120
whole_small den busy i h hb hd = let q = whole_few den busy i h hb hd in omega (arith, q)

pub small_of : (num den : ℕ) (f : Frac) → Some (record { num = num; den = den }) ≡ Some f → den < 2 ^ 120 →
    f.den < 2 ^ 120
small_of num den f e h = subst (λ (g : Frac). g.den < 2 ^ 120) (some_is (record { num = num; den = den }) f e) h

pub flow_few : (day : List Tuple) → IsDay day → (f : CodeFlow) (k : Stretch) (m : ℕ) →
    shown_flow f ≡ flow_at (notes_of (reports day)) k m → f.cars ≤ 500000
flow_few day fit f k m e =
    let same : f.cars ≡ cars (notes_of (reports day)) m k = ap (λ g. g.cars) e in
    omega (arith, cars_few_day day fit m k)
