-- the numbers of an average's comparison and rounding stay small
use Rattle.std.proofs.Common.{ℕ, ◌≤◌, ◌<◌, ◌*◌, ◌/◌, ◌^◌, arith}
use Rattle.std.proofs.Math.Nat.{mul-le-mul, div-le_of_le-mul}

-- a speed times a denominator fits 128 bits
pub product_fits : (speed den : ℕ) → speed ≤ 100 → den ≤ 2 ^ 101 → speed * den < 2 ^ 128
product_fits speed den s d = let p : speed * den ≤ 100 * 2 ^ 101 = mul-le-mul s d in omega arith

-- an average has at most 100 whole units
pub whole_is_small : (num den : ℕ) → num ≤ 100 * den → num / den ≤ 100
whole_is_small num den h = div-le_of_le-mul den (omega (arith, h))
