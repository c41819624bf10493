-- What an answer is of the rows that it was read from, whatever they are.
use Rattle.std.specs.Prelude.{◌≡◌, ◌≤◌, ℕ, pos, List, [], ◌∷◌, Option, Some, None}
use Rattle.std.specs.List.{fold}
use Rattle.sqlite_value.specs.declared.value.Value.TheVariants.{Int, Blob}
use Rattle.sqlite_value.specs.Order.{Row, column}
use Rattle.road_time.specs.declared.day.SpentRow.{SpentRow}
use Rattle.road_time.specs.declared.tariff.Tariff.{Tariff}
use Rattle.road_time.specs.Rates.{Tariffs}
use Rattle.road_time.specs.Tariffs.{with_tariff}
use Rattle.keep_office.specs.declared.kept.DayRecord.{DayRecord}
use Rattle.keep_office.specs.declared.kept.PastRecord.{PastRecord}
use Rattle.keep_office.specs.Office.{day_before}

-- a row has the columns of an amount
abbrev pub IsAmount : Row → SpentRow → Type 0
IsAmount row r =
    (column row 0 ≡ Int (pos r.day)) × (column row 1 ≡ Int (pos r.vid)) × (column row 2 ≡ Int (pos r.xway))
    × (column row 3 ≡ Int (pos r.tolls))

-- a row has the columns of a history
abbrev pub IsHistory : Row → PastRecord → Type 0
IsHistory row p =
    (column row 0 ≡ Int (pos p.base)) × (column row 1 ≡ Blob p.digest.bytes) × (column row 2 ≡ Int (pos p.bytes))
    × (column row 3 ≡ Int (pos p.rows))

-- a row and a seal have the columns of this day
abbrev pub IsSealedDay : ℕ → Row → Row → DayRecord → Type 0
IsSealedDay day row seal r =
    (r.day ≡ day) × (column row 0 ≡ Blob r.digest.bytes) × (column row 1 ≡ Int (pos r.bytes))
    × (column row 2 ≡ Int (pos r.tuples)) × (column row 3 ≡ Int (pos r.notices))
    × (column row 4 ≡ Blob r.notices_digest.bytes) × (column row 5 ≡ Int (pos r.total))
    × (column seal 0 ≡ Blob r.tariffs.bytes)

-- a row has the columns of an expressway and its tariff
abbrev pub IsOwnTariff : Row → ℕ × Tariff → Type 0
IsOwnTariff row e =
    (column row 0 ≡ Int (pos e.0)) × (column row 1 ≡ Int (pos e.1.crowd)) × (column row 2 ≡ Int (pos e.1.speed))
    × (column row 3 ≡ Int (pos e.1.factor))

-- there is one row alone, of which this holds
abbrev pub IsAlone : List Row → (Row → Type 0) → Type 0
IsAlone [] holds = ⊥
IsAlone (row ∷ []) holds = holds row
IsAlone (row ∷ next ∷ rows) holds = ⊥

-- there are as many rows as items, and each row is that of the item at its place
abbrev pub AreRowsOf : {X : Type 0} → (Row → X → Type 0) → List Row → List X → Type 0
AreRowsOf is [] [] = Unit {0}
AreRowsOf is [] (x ∷ xs) = ⊥
AreRowsOf is (row ∷ rows) [] = ⊥
AreRowsOf is (row ∷ rows) (x ∷ xs) = is row x × AreRowsOf is rows xs

-- the amounts that rows are, none left out
abbrev pub AreAmounts : List Row → List SpentRow → Type 0
AreAmounts rows amounts = AreRowsOf IsAmount rows amounts

-- no row is no history; one row is the history of its columns, whose base is 70 or more
abbrev pub IsPastIn : List Row → Option PastRecord → Type 0
IsPastIn rows None = rows ≡ []
IsPastIn rows (Some p) = IsAlone rows (λ row. IsHistory row p × (70 ≤ p.base))

-- no row is no day; one row with one seal is the day of their columns
abbrev pub IsDayIn : ℕ → List Row → List Row → Option DayRecord → Type 0
IsDayIn day rows seals None = rows ≡ []
IsDayIn day rows seals (Some r) = IsAlone rows (λ row. IsAlone seals (λ seal. IsSealedDay day row seal r))

-- the day before that of a history that rows are, 0 for none
pub record IsBefore (rows : List Row) (day : ℕ) : Type 0 where
  pub past : Option PastRecord
  pub read : IsPastIn rows past
  pub before : day ≡ day_before past

-- the last day is the one that a row has; without a row it is the day before the history's
abbrev pub IsLastIn : List Row → List Row → ℕ → Type 0
IsLastIn [] found day = IsBefore found day
IsLastIn (row ∷ []) found day = column row 0 ≡ Int (pos day)
IsLastIn (row ∷ next ∷ days) found day = ⊥

-- with one more tariff
abbrev pub with_entry : Tariffs → ℕ × Tariff → Tariffs
with_entry ts e = with_tariff ts e.0 e.1

-- the tariffs that rows make, each set in its order, none left out
pub record AreTariffsIn (rows : List Row) (tariffs : Tariffs) : Type 0 where
  pub own : List (ℕ × Tariff)
  pub read : AreRowsOf IsOwnTariff rows own
  pub made : tariffs ≡ fold with_entry [] own
