-- The amounts of a history by day, vehicle and expressway.
use Rattle.std.specs.Prelude.{ℕ, ◌≡◌, ◌+◌, ◌<◌, ◌≤◌, nat_lt, Bool, true, false, List, [], ◌∷◌, ◌++◌, map, Option, Some}
use Rattle.std.specs.Prelude.{None, if◌then◌else◌}
use Rattle.std.specs.List.{fold, filter, list_any, AllByRecursion}
use Rattle.road_time.specs.declared.day.SpentRow.{SpentRow}
use Rattle.road_time.specs.History.{is_row}
use Rattle.keep_office.specs.Office.{RowsRise}
use Rattle.keep_office.specs.PastReads.{with_row, past_kept}
use Rattle.day_past.specs.declared.amounts.Key.{Key}
use Rattle.day_past.specs.declared.amounts.Amounts.{Amounts}

-- an amount of one of the 69 days before a base
abbrev pub IsPastRow : ℕ → SpentRow → Type 0
IsPastRow base r = (base ≤ r.day + 69) × (r.day < base) × (r.tolls ≤ 9999999999)

-- if there is one, this holds of it
abbrev pub IfAny : (SpentRow → Type 0) → Option SpentRow → Type 0
IfAny P None = Unit {0}
IfAny P (Some r) = P r

-- the amount under a key
abbrev pub amount_of : Key × ℕ → SpentRow
amount_of e = record { day = e.0.day; vid = e.0.vid; xway = e.0.xway; tolls = e.1 }

-- the amounts so far, in order: those of the list, and then those of the map
abbrev pub rows_in : Amounts → List SpentRow
rows_in a = if a.is_rising then a.rising.items else map amount_of a.by_key.entries

-- the amounts of these lines were taken, no two of a vehicle, day and expressway
pub record HasRows (a : Amounts) (base : ℕ) (rows : List SpentRow) : Type 0 where
  pub rise : RowsRise (rows_in a)
  pub entries : rows_in a ≡ fold with_row [] rows
  pub same : (day vid xway : ℕ) → list_any (is_row day vid xway) (rows_in a) ≡ list_any (is_row day vid xway) rows
  pub kept : filter (λ r. nat_lt 0 r.tolls) (rows_in a) ≡ past_kept rows
  pub valid : AllByRecursion (IsPastRow base) (rows_in a)

-- an amount was taken, or one of its vehicle, day and expressway was taken before
abbrev pub TakesAmount : Bool → Amounts → ℕ → List SpentRow → SpentRow → Type 0
TakesAmount true a base rows r = (list_any (is_row r.day r.vid r.xway) rows ≡ false) × HasRows a base (rows ++ r ∷ [])
TakesAmount false a base rows r = list_any (is_row r.day r.vid r.xway) rows ≡ true
