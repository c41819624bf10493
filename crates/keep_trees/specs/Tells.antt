-- What calls tell of the rows of trees, whatever these hold.
use Rattle.std.specs.Prelude.{◌≡◌, ◌⊎◌, ◌<◌, ℕ, pos, true, List, [], ◌∷◌, ◌++◌, filter, Option, Some, None}
use Rattle.std.specs.List.{AllByRecursion}
use Rattle.sqlite_value.specs.declared.value.Value.TheVariants.{Int, Blob}
use Rattle.sqlite_value.specs.Order.{Row, column}
use Rattle.sqlite_trees.specs.Tree.{rowid, has_rowid}
use Rattle.sqlite_trees.specs.View.{Finds}
use Rattle.road_time.specs.declared.tariff.Tariff.{Tariff}
use Rattle.road_time.specs.Rates.{Tariffs, benchmark, tariff_of}
use Rattle.keep_office.specs.declared.kept.DayRecord.{DayRecord}
use Rattle.keep_office.specs.declared.kept.PastRecord.{PastRecord}
use Rattle.keep_office.specs.Office.{last_from}

-- a row has the values of a history
abbrev pub HasPast : Row → PastRecord → Type 0
HasPast row p =
    (column row 2 ≡ Int (pos p.base)) × (column row 3 ≡ Blob p.digest.bytes) × (column row 4 ≡ Int (pos p.bytes))
    × (column row 5 ≡ Int (pos p.rows))

-- a history is told as the row of number 1 has it, and as not kept only where there is no such row
abbrev pub IsToldPast : List Row → Option PastRecord → Type 0
IsToldPast rows None = filter (has_rowid (pos 1)) rows ≡ []
IsToldPast rows (Some p) = (row : Row) × Finds rows (pos 1) row true × HasPast row p

-- a row has the values of a day, but for its number and its seal
abbrev pub HasDay : Row → DayRecord → Type 0
HasDay row r =
    (column row 2 ≡ Blob r.digest.bytes) × (column row 3 ≡ Int (pos r.bytes)) × (column row 4 ≡ Int (pos r.tuples))
    × (column row 5 ≡ Int (pos r.notices)) × (column row 6 ≡ Blob r.notices_digest.bytes)
    × (column row 7 ≡ Int (pos r.total))

-- a day is that of its number's rows: the one in the table of days has its values, the one among the seals its seal
pub record IsDayOf (days seals : List Row) (day : ℕ) (r : DayRecord) : Type 0 where
  pub number : r.day ≡ day
  pub row : Row
  pub found : Finds days (pos day) row true
  pub has : HasDay row r
  pub seal : Row
  pub sealed : Finds seals (pos day) seal true
  pub tariffs : column seal 2 ≡ Blob r.tariffs.bytes

-- a day is told as its row and its seal's have it, and as not kept only where it has no row
abbrev pub IsToldDay : List Row → List Row → ℕ → Option DayRecord → Type 0
IsToldDay days seals day None = filter (has_rowid (pos day)) days ≡ []
IsToldDay days seals day (Some r) = IsDayOf days seals day r

-- the last of some rows has this number, or there is none
abbrev pub IsLastRow : List Row → Option ℕ → Type 0
IsLastRow rows None = rows ≡ []
IsLastRow rows (Some n) = (before : List Row) × (row : Row) × (rows ≡ before ++ row ∷ []) × (rowid row ≡ Int (pos n))

-- a day is that of the last row, or, where there is none, the one before the base of the history that is told
abbrev pub IsToldLast : List Row → List Row → ℕ → Type 0
IsToldLast days history last =
    IsLastRow days (Some last)
    ⊎ ((days ≡ []) × ((past : Option PastRecord) × IsToldPast history past × (last ≡ last_from [] past)))

-- a row has the values of a tariff
abbrev pub HasTariff : Row → Tariff → Type 0
HasTariff row t =
    (column row 2 ≡ Int (pos t.crowd)) × (column row 3 ≡ Int (pos t.speed)) × (column row 4 ≡ Int (pos t.factor))

-- the tariff of an expressway is that of its row, or the benchmark's where it has no row
abbrev pub IsToldTariff : List Row → ℕ → Tariff → Type 0
IsToldTariff rows xway t =
    ((row : Row) × Finds rows (pos xway) row true × HasTariff row t)
    ⊎ ((filter (has_rowid (pos xway)) rows ≡ []) × (t ≡ benchmark))

-- each expressway below one is told its tariff, and no other has its own
pub record AreToldBelow (rows : List Row) (xway : ℕ) (tariffs : Tariffs) : Type 0 where
  pub below : AllByRecursion (λ e. e.0 < xway) tariffs
  pub each : (x : ℕ) → x < xway → IsToldTariff rows x (tariff_of tariffs x)

-- a row has the number of an expressway
abbrev pub HasXway : Row → Type 0
HasXway row = (xway : ℕ) × (rowid row ≡ Int (pos xway)) × (xway < 256)

-- no row is of anything but an expressway, and each of the 256 is told its tariff
pub record AreTold (rows : List Row) (tariffs : Tariffs) : Type 0 where
  pub numbered : AllByRecursion HasXway rows
  pub told : AreToldBelow rows 256 tariffs
