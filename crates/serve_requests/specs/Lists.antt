-- The bodies that hold a JSON array: all kept days, and the statement of a vehicle.
use Rattle.std.specs.Prelude.{ℕ, List, [], ◌∷◌, ◌++◌, codes, decimal}
use Rattle.std.specs.List.{flat_map}
use Rattle.road_time.specs.declared.day.SpentRow.{SpentRow}
use Rattle.keep_office.specs.declared.kept.DayRecord.{DayRecord}
use Rattle.keep_office.specs.Office.{sum_of_rows}
use Rattle.serve_requests.specs.Bodies.{day_body}

-- a kept day behind others
abbrev pub next_day : DayRecord → List ℕ
next_day r = codes "," ++ day_body r

-- kept days, each as it is answered alone
abbrev pub days_body : List DayRecord → List ℕ
days_body [] = codes "[]"
days_body (r ∷ rs) = codes "[" ++ (day_body r ++ (flat_map next_day rs ++ codes "]"))

-- an amount: its day, what it is, and its expressway
abbrev pub amount_body : SpentRow → List ℕ
amount_body r =
    codes "{\"day\":"
    ++ (decimal r.day
    ++ (codes ",\"tolls\":" ++ (decimal r.tolls ++ (codes ",\"xway\":" ++ (decimal r.xway ++ codes "}")))))

-- an amount behind others
abbrev pub next_amount : SpentRow → List ℕ
next_amount r = codes "," ++ amount_body r

-- amounts
abbrev pub amounts_body : List SpentRow → List ℕ
amounts_body [] = codes "[]"
amounts_body (r ∷ rs) = codes "[" ++ (amount_body r ++ (flat_map next_amount rs ++ codes "]"))

-- the first members of a vehicle's statement: its amounts, and its first and last day
abbrev pub statement_front : List SpentRow → ℕ → ℕ → List ℕ
statement_front rows from to =
    codes "{\"amounts\":"
    ++ (amounts_body rows ++ (codes ",\"from\":" ++ (decimal from ++ (codes ",\"to\":" ++ decimal to))))

-- the statement of a vehicle, by its amounts on the days from one to another
abbrev pub vehicle_body : ℕ → ℕ → ℕ → List SpentRow → List ℕ
vehicle_body vid from to rows =
    statement_front rows from to
    ++ (codes ",\"total\":"
    ++ (decimal (sum_of_rows rows) ++ (codes ",\"vid\":" ++ (decimal vid ++ codes "}"))))
