-- The entry of a vehicle, which holds the sum of its first expressway, and the entries of further ones.
use Rattle.std.specs.Prelude.{ℕ, ◌+◌, ◌==◌, Option, Bool, false, not, Some, None, List, [], ◌∷◌, ◌++◌, nat_eq}
use Rattle.std.specs.Prelude.{if◌then◌else◌}
use Rattle.std.specs.Option.{unwrap_or}
use Rattle.std.specs.Map.{lookup}
use Rattle.day_floor.specs.declared.vehicle.First.{First}
use Rattle.day_floor.specs.declared.vehicle.Vehicle.{Vehicle}
use Rattle.day_floor.specs.Sums.{same_owner}

-- what is kept of a vehicle, zeros where it was never told
abbrev pub vehicle_at : List (ℕ × Vehicle) → ℕ → Vehicle
vehicle_at vehicles vid = unwrap_or (lookup (nat_eq vid) vehicles) (record { told = 0; sum = 0; first = None })

-- whether an expressway is another than that of the first charge
abbrev pub is_further : Option First → ℕ → Bool
is_further None xway = false
is_further (Some f) xway = not (f.xway == xway)

-- the sum on an expressway: the first charge's own, or what is kept of further expressways
abbrev pub sum_of_first : Option First → ℕ → Option ℕ → Option ℕ
sum_of_first None xway further = further
sum_of_first (Some f) xway further = if f.xway == xway then Some f.sum else further

-- the first charge's own sum on an expressway, 0 for none
abbrev pub first_sum : Option First → ℕ → ℕ
first_sum first xway = unwrap_or (sum_of_first first xway None) 0

-- what stands for the first charge after a charge on an expressway
abbrev pub first_after : Option First → ℕ → ℕ → First
first_after None xway toll = record { xway = xway; sum = toll }
first_after (Some f) xway toll = if f.xway == xway then record { xway = xway; sum = f.sum + toll } else f

-- the entry of a vehicle's first charge, before others
abbrev pub with_first : ℕ → Option First → List ((ℕ × ℕ) × ℕ) → List ((ℕ × ℕ) × ℕ)
with_first vid None es = es
with_first vid (Some f) es = ((vid, f.xway), f.sum) ∷ es

-- the sums on the expressways of the vehicles' first charges
abbrev pub firsts : List (ℕ × Vehicle) → List ((ℕ × ℕ) × ℕ)
firsts [] = []
firsts (e ∷ es) = with_first e.0 e.1.first (firsts es)

-- the sums on all expressways: those of the first charges, and those on further ones
abbrev pub all_sums : List (ℕ × Vehicle) → List ((ℕ × ℕ) × ℕ) → List ((ℕ × ℕ) × ℕ)
all_sums vehicles further = firsts vehicles ++ further

-- what a vehicle was charged on an expressway, by the two look-ups
abbrev pub looked_up : List (ℕ × Vehicle) → List ((ℕ × ℕ) × ℕ) → ℕ × ℕ → Option ℕ
looked_up vehicles further q = sum_of_first (vehicle_at vehicles q.0).first q.1 (lookup (same_owner q) further)
