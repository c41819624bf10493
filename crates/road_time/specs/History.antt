-- What a vehicle paid on an expressway on an earlier day, by the rows that are kept.
use Rattle.std.specs.Prelude.{◌≡◌, ℕ, ◌==◌, ◌&&◌, Bool, false, List, [], ◌∷◌, Option, Some, None}
use Rattle.std.specs.List.{find, AllByRecursion}
use Rattle.road_time.specs.declared.day.SpentRow.{SpentRow}

-- a row of a day, a vehicle and an expressway
abbrev pub is_row : ℕ → ℕ → ℕ → SpentRow → Bool
is_row day vid xway r = r.day == day && (r.vid == vid && r.xway == xway)

-- the amount of a row, 0 for none
abbrev pub tolls_of : Option SpentRow → ℕ
tolls_of None = 0
tolls_of (Some r) = r.tolls

-- what the rows say that a vehicle paid on an expressway on a day
abbrev pub paid : List SpentRow → ℕ → ℕ → ℕ → ℕ
paid rows day vid xway = tolls_of (find (is_row day vid xway) rows)

-- no two rows are of one day, vehicle and expressway
abbrev pub KeysDiffer : List SpentRow → Type 0
KeysDiffer [] = Unit {0}
KeysDiffer (r ∷ rs) = AllByRecursion (λ s. is_row r.day r.vid r.xway s ≡ false) rs × KeysDiffer rs
