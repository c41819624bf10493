-- the numbers of the mean of five averages stay small
use Rattle.std.proofs.Common.{◌≡◌, ℕ, ◌-◌, ◌+◌, ◌*◌, ◌^◌, ◌<◌, ◌≤◌, arith}
use Rattle.std.proofs.Math.Nat.{mul-le-mul}
use Rattle.road_time.proofs.MeanLaws.{pow_few}

-- a product of numbers that are not 0 is not 0
pub den_some : (den c : ℕ) → 1 ≤ den → 0 < c → 1 ≤ den * c
den_some den c h g =
    let one : 1 ≤ c = omega arith in
    let p : 1 * 1 ≤ den * c = mul-le-mul h one in
    omega (arith, p)

-- a number is at most itself
same : (n : ℕ) → n ≤ n
same n = omega arith

-- one average of at most 1200 twelfths more
pub num_step : (num s den c i : ℕ) → num ≤ 1200 * i * den → s ≤ 1200 * c →
    num * c + s * den ≤ 1200 * (i + 1) * (den * c)
num_step num s den c i hn hs =
    let a : num * c ≤ 1200 * i * den * c = mul-le-mul hn (same c) in
    let b : s * den ≤ 1200 * c * den = mul-le-mul hs (same den) in
    let d : 1200 * (i + 1) * (den * c) ≡ 1200 * i * den * c + 1200 * c * den = grind arith in
    omega (arith, a, b, d)

-- five numerators fit 128 bits
pub num_fits : (num s den c busy i : ℕ) → i < 5 → busy ≤ i → num ≤ 1200 * busy * den → s ≤ 1200 * c → den ≤ 500000 ^ i →
    c ≤ 500000 → num * c + s * den < 2 ^ 128
num_fits num s den c busy i h hb hn hs hd hc =
    let p : 500000 ^ i ≤ 62500000000000000000000 = pow_few i 4 (omega arith) in
    let u : den ≤ 62500000000000000000000 = omega arith in
    let q : den * c ≤ 62500000000000000000000 * 500000 = mul-le-mul u hc in
    let v : 1200 * (busy + 1) ≤ 6000 = omega arith in
    let w : 1200 * (busy + 1) * (den * c) ≤ 6000 * (62500000000000000000000 * 500000) = mul-le-mul v q in
    let all = num_step num s den c busy hn hs in
    omega (arith, w, all)

-- it is not 0 where there is a flow
pub whole_some : (den busy : ℕ) → 1 ≤ den → 1 ≤ busy → 1 ≤ 12 * busy * den
whole_some den busy h g =
    let u : 1 ≤ 12 * busy = omega arith in
    let p : 1 * 1 ≤ 12 * busy * den = mul-le-mul u h in
    omega (arith, p)

-- a mean of at most 1200 twelfths is at most 100
pub mean_slow : (num den busy : ℕ) → num ≤ 1200 * busy * den → num ≤ 100 * (12 * busy * den)
mean_slow num den busy h =
    let e : 1200 * busy * den ≡ 100 * (12 * busy * den) = grind arith in
    omega (arith, h, e)
