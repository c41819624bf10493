-- What queries show of a record.
use Rattle.std.specs.Prelude.{ℕ, List, [], ◌∷◌, pos, Option, Some, None}
use Rattle.sqlite_value.specs.declared.value.Value.TheVariants.{Int, Blob}
use Rattle.sqlite_value.specs.Order.{Row}
use Rattle.road_time.specs.declared.tariff.Tariff.{Tariff}
use Rattle.keep_office.specs.declared.kept.DayRecord.{DayRecord}
use Rattle.keep_office.specs.Office.{greatest_day}

-- an expressway and its tariff
abbrev pub tariff_columns : ℕ × Tariff → Row
tariff_columns e = Int (pos e.0) ∷ Int (pos e.1.crowd) ∷ Int (pos e.1.speed) ∷ Int (pos e.1.factor) ∷ []

-- what a query shows of a day, whose number it was asked with, and of its seal
abbrev pub day_columns : DayRecord → Row
day_columns r =
    Blob r.digest.bytes ∷ Int (pos r.bytes) ∷ Int (pos r.tuples) ∷ Int (pos r.notices) ∷
    Blob r.notices_digest.bytes ∷ Int (pos r.total) ∷ []

-- what a query shows of the seal of a day
abbrev pub seal_columns : DayRecord → Row
seal_columns r = Blob r.tariffs.bytes ∷ []

-- the number of a day alone
abbrev pub number_columns : DayRecord → Row
number_columns r = Int (pos r.day) ∷ []

-- the rows of what may be there: one or none
abbrev pub row_if_any : {X : Type 0} → (X → Row) → Option X → List Row
row_if_any row None = []
row_if_any row (Some x) = row x ∷ []

-- the last of some days
abbrev pub last_rows : List DayRecord → List Row
last_rows [] = []
last_rows (d ∷ ds) = (Int (pos (greatest_day d.day ds)) ∷ []) ∷ []
