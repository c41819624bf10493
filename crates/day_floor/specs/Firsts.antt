-- A vehicle's first charge, as it is kept in memory.
use Rattle.std.specs.Prelude.{◌≡◌, ℕ, ◌≤◌, nat_le, Option, Some, None, refl, if◌then◌else◌}
use Rattle.std.specs.Coded.{Coded, code_by, coded×, coded_ℕ}
use Rattle.day_floor.specs.declared.vehicle.First.{First}

-- the first charge that a kept expressway and sum tell of: none where the number is that of no expressway
abbrev pub first_kept : ℕ → ℕ → Option First
first_kept xway sum = if nat_le xway 255 then Some (record { xway = xway; sum = sum }) else None

-- the number that is kept for its expressway, 256 for none
abbrev pub xway_kept : Option First → ℕ
xway_kept None = 256
xway_kept (Some f) = f.xway

-- the sum that is kept of it
abbrev pub sum_kept : Option First → ℕ
sum_kept None = 0
sum_kept (Some f) = f.sum

-- a kept number is an expressway's, or 256 with no sum
pub record IsKept (xway sum : ℕ) : Type 0 where
  pub few : xway ≤ 256
  pub none : 256 ≤ xway → sum ≡ 0

-- a first charge is stored as its parts
abbrev pub first_code : Coded First
first_code =
    code_by (ℕ × ℕ) (coded× coded_ℕ coded_ℕ) (λ f. (f.xway, f.sum)) (λ p. record { xway = p.0; sum = p.1 }) (λ _. refl)
