-- Laws of what is kept, which no code runs.
use Rattle.std.specs.Prelude.{◌≡◌, ℕ, ◌^◌, ◌<◌, ◌≤◌, List, length}
use Rattle.std.specs.List.{AllByRecursion}
use Rattle.road_time.specs.declared.day.SpentRow.{SpentRow}
use Rattle.road_time.specs.Rows.{AreRowsRising, rows_of}
use Rattle.road_time.specs.declared.road.Tuple.{Tuple}
use Rattle.road_time.specs.Fits.{IsDay}
use Rattle.keep_office.specs.Kept.{IsDayPut, kept_record}
use Rattle.road_time.specs.History.{paid, KeysDiffer}
use Rattle.keep_office.specs.Office.{Office, RowsRise, rows_between}

-- what the amounts of some days tell of a day among them is what all amounts tell
abbrev pub HistoryLaw : Type 0
HistoryLaw =
    (o : Office) (from to day vid xway : ℕ) → from ≤ day → day ≤ to →
    paid (rows_between o from to) day vid xway ≡ paid o.rows day vid xway

-- rows in rising order have no key twice
abbrev pub KeysLaw : Type 0
KeysLaw = (rows : List SpentRow) → RowsRise rows → KeysDiffer rows

-- the rows of one day in the order of vehicles and expressways are in rising order
abbrev pub DayRowsLaw : Type 0
DayRowsLaw = (rows : List SpentRow) (day : ℕ) → AllByRecursion (λ r. r.day ≡ day) rows → AreRowsRising rows →
    RowsRise rows

-- what a day stores may be put: its record and its rows fit together
abbrev pub StoredLaw : Type 0
StoredLaw =
    (number : ℕ) (bytes : List ℕ) (day : List Tuple) (o : Office) → IsDay day → length bytes < 2 ^ 63 →
    IsDayPut (kept_record number bytes day o) (rows_of day o.tariffs number)
