-- What a call that reads shows of what was committed before it, whatever that is.
use Rattle.std.specs.Prelude.{ℕ, pos, List, [], ◌∷◌, Option, IsTrue}
use Rattle.sqlite_value.specs.declared.value.Value.TheVariants.{Int}
use Rattle.sqlite_value.specs.Order.{Row}
use Rattle.sqlite_trees.specs.declared.store.Store.{Ghosts}
use Rattle.sqlite.specs.Held.{Held, state}
use Rattle.road_time.specs.declared.day.SpentRow.{SpentRow}
use Rattle.road_time.specs.Rates.{Tariffs}
use Rattle.keep_office.specs.declared.kept.DayRecord.{DayRecord}
use Rattle.keep_office.specs.declared.kept.PastRecord.{PastRecord}
use Rattle.keep_tables.specs.Amounts.{HasAmount}
use Rattle.keep_tables.specs.Texts.{find_spent, find_tariffs, list_spent, list_vehicle, find_last, find_day, find_seal}
use Rattle.keep_tables.specs.Texts.{find_past}
use Rattle.keep_database.specs.Exact.{AreAmounts, AreTariffsIn, IsDayIn, IsLastIn, IsPastIn}
use Rattle.keep_database.specs.Looks.{ShowsCommitted}

-- a query shows rows of what was committed before a call, of which this holds
pub record ShowsSuch {S : Type 0} (g : Ghosts S) (sql : List ℕ) (params : Row) (old : Held S)
    (such : List Row → Type 0) : Type 0 where
  pub now : Held S
  pub rows : List Row
  pub was_open : IsTrue (state g old).is_open
  pub shown : ShowsCommitted g sql params old now rows
  pub are : such rows

-- the rows of the last day and of the history are these two answers' last day
abbrev pub ShowsLast : {S : Type 0} → Ghosts S → Held S → ℕ → Type 0
ShowsLast g old day =
    ShowsSuch g find_last [] old (λ days. ShowsSuch g find_past [] old (λ found. IsLastIn days found day))

-- the rows of a day and of its seal are this record, or none
abbrev pub ShowsDay : {S : Type 0} → Ghosts S → ℕ → Held S → Option DayRecord → Type 0
ShowsDay g day old kept =
    ShowsSuch g find_day (Int (pos day) ∷ []) old
    (λ rows. ShowsSuch g find_seal (Int (pos day) ∷ []) old (λ seals. IsDayIn day rows seals kept))

-- the rows of the history are this record, or none
abbrev pub ShowsPast : {S : Type 0} → Ghosts S → Held S → Option PastRecord → Type 0
ShowsPast g old past = ShowsSuch g find_past [] old (λ rows. IsPastIn rows past)

-- the rows of a vehicle's amount on an expressway on a day are this amount, none 0
abbrev pub ShowsSpent : {S : Type 0} → Ghosts S → ℕ → ℕ → ℕ → Held S → ℕ → Type 0
ShowsSpent g day vid xway old tolls =
    ShowsSuch g find_spent (Int (pos day) ∷ Int (pos vid) ∷ Int (pos xway) ∷ []) old (λ rows. HasAmount rows tolls)

-- the rows of some days are these amounts
abbrev pub ShowsRows : {S : Type 0} → Ghosts S → ℕ → ℕ → Held S → List SpentRow → Type 0
ShowsRows g from to old amounts =
    ShowsSuch g list_spent (Int (pos from) ∷ Int (pos to) ∷ []) old (λ rows. AreAmounts rows amounts)

-- the rows of a vehicle on some days are these amounts
abbrev pub ShowsVehicleRows : {S : Type 0} → Ghosts S → ℕ → ℕ → ℕ → Held S → List SpentRow → Type 0
ShowsVehicleRows g vid from to old amounts =
    ShowsSuch g list_vehicle (Int (pos vid) ∷ Int (pos from) ∷ Int (pos to) ∷ []) old
    (λ rows. AreAmounts rows amounts)

-- the rows of tariffs make these
abbrev pub ShowsTariffs : {S : Type 0} → Ghosts S → Held S → Tariffs → Type 0
ShowsTariffs g old tariffs = ShowsSuch g find_tariffs [] old (λ rows. AreTariffsIn rows tariffs)
