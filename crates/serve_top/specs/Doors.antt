-- What the ears of a door accepted in all, and whether one failed.

use Rattle.std.specs.Prelude.{ℕ, ◌+◌, ◌-◌, ◌^◌, Bool, List, min, sum_by, nat_lt, if◌then◌else◌}
use Rattle.std.specs.List.{list_any}

-- the connections that ears accepted in all
abbrev pub accepted_in : {N : Type 0} → (N → ℕ) → List N → ℕ
accepted_in accepted ears = sum_by (λ ear. accepted ear) ears

-- an ear failed
abbrev pub has_fault : {N : Type 0} → (N → ℕ) → List N → Bool
has_fault faults ears = list_any (λ ear. nat_lt 0 (faults ear)) ears

-- a count that rises by one, or stays at the last value of its type
abbrev pub counted : ℕ → ℕ
counted n = min (n + 1) (2 ^ 64 - 1)

-- a count that rises in this case alone
abbrev pub counted_where : Bool → ℕ → ℕ
counted_where here n = if here then counted n else n
