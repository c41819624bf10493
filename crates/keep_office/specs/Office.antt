-- An office: what it keeps, what is found in it, and when all of it fits together.
use Rattle.std.specs.Prelude.{◌≡◌, ℕ, ◌+◌, ◌-◌, ◌<◌, ◌≤◌, ◌==◌, ◌&&◌, nat_le, not, max, Bool, List, [], ◌∷◌, map}
use Rattle.std.specs.Prelude.{length, Option, Some, None}
use Rattle.std.specs.List.{filter, find, fold, list_any, sum_by, AllByRecursion}
use Rattle.std.specs.List.Sorted.{IsStrictlySortedBy}
use Rattle.std.specs.declared.cmp.Ordering.{Ordering}
use Rattle.std.specs.Ordering.{nat_cmp, ordering_then}
use Rattle.road_time.specs.declared.day.SpentRow.{SpentRow}
use Rattle.road_time.specs.Rates.{Tariffs}
use Rattle.road_time.specs.Tariffs.{IsTariffs}
use Rattle.keep_office.specs.declared.kept.DayRecord.{DayRecord}
use Rattle.keep_office.specs.declared.kept.PastRecord.{PastRecord}

-- what an office keeps: the records of days in the order of days, amounts in the order of day, vehicle and expressway,
-- a history, and tariffs by expressway
pub record Office : Type 0 where
  pub days : List DayRecord
  pub rows : List SpentRow
  pub past : Option PastRecord
  pub tariffs : Tariffs

-- an office that keeps nothing
abbrev pub nothing_kept : Office
nothing_kept = record { days = []; rows = []; past = None; tariffs = [] }

-- how the key of a row stands to a day, a vehicle and an expressway
abbrev pub key_cmp : ℕ → ℕ → ℕ → SpentRow → Ordering
key_cmp day vid xway r = ordering_then (nat_cmp r.day day) (ordering_then (nat_cmp r.vid vid) (nat_cmp r.xway xway))

-- the order of rows: by day, then vehicle, then expressway
abbrev pub row_cmp : SpentRow → SpentRow → Ordering
row_cmp a b = key_cmp b.day b.vid b.xway a

-- the keys of rows rise strictly
abbrev pub RowsRise : List SpentRow → Type 0
RowsRise rows = IsStrictlySortedBy row_cmp rows

-- the record of a day, none if the day is not kept
abbrev pub record_of : Office → ℕ → Option DayRecord
record_of o day = find (λ r. r.day == day) o.days

-- a day is among the kept ones
abbrev pub is_kept : List DayRecord → ℕ → Bool
is_kept days day = list_any (λ r. r.day == day) days

-- the day before the one that a history is counted back from, 0 for no history
abbrev pub day_before : Option PastRecord → ℕ
day_before None = 0
day_before (Some p) = p.base - 1

-- the greatest day of some records, where others come before them
abbrev pub greatest_day : ℕ → List DayRecord → ℕ
greatest_day before days = fold (λ most r. max most r.day) before days

-- the greatest of these days, and for none the day before the base of the history
abbrev pub last_from : List DayRecord → Option PastRecord → ℕ
last_from [] past = day_before past
last_from (r ∷ rs) past = greatest_day r.day rs

-- the last day that is kept
abbrev pub last_day : Office → ℕ
last_day o = last_from o.days o.past

-- the amounts of a day
abbrev pub rows_on : ℕ → List SpentRow → List SpentRow
rows_on day rows = filter (λ r. r.day == day) rows

-- what amounts come to
abbrev pub sum_of_rows : List SpentRow → ℕ
sum_of_rows rows = sum_by (λ r. r.tolls) rows

-- the amounts of days that are not kept
abbrev pub rows_off : List DayRecord → List SpentRow → List SpentRow
rows_off days rows = filter (λ r. not (is_kept days r.day)) rows

-- the amounts of the days from one to another, both included
abbrev pub rows_between : Office → ℕ → ℕ → List SpentRow
rows_between o from to = filter (λ r. nat_le from r.day && nat_le r.day to) o.rows

-- the amounts of a vehicle on the days from one to another, both included
abbrev pub vehicle_rows_between : Office → ℕ → ℕ → ℕ → List SpentRow
vehicle_rows_between o vid from to = filter (λ r. r.vid == vid && (nat_le from r.day && nat_le r.day to)) o.rows

-- a history fits what is kept: the amounts of days that are not kept are its own, of the 69 days before its base, and
-- no kept day is before its base
pub record IsPast (past : PastRecord) (days : List DayRecord) (rows : List SpentRow) : Type 0 where
  pub based : 70 ≤ past.base
  pub from : AllByRecursion (λ r. past.base ≤ r.day + 69) (rows_off days rows)
  pub to : AllByRecursion (λ r. r.day < past.base) (rows_off days rows)
  pub counted : length (rows_off days rows) ≡ past.rows
  pub before : AllByRecursion (λ r. past.base ≤ r.day) days

-- days, amounts, history and tariffs fit together
pub record IsSound (o : Office) : Type 0 where
  pub days_rise : IsStrictlySortedBy nat_cmp (map (λ r. r.day) o.days)
  pub from_one : AllByRecursion (λ r. 1 ≤ r.day) o.days
  pub rows_rise : RowsRise o.rows
  pub above_zero : AllByRecursion (λ r. 0 < r.tolls) o.rows
  pub sums : AllByRecursion (λ r. sum_of_rows (rows_on r.day o.rows) ≡ r.total) o.days
  pub no_past : o.past ≡ None → length (rows_off o.days o.rows) ≡ 0
  pub past : (p : PastRecord) → o.past ≡ Some p → IsPast p o.days o.rows
  pub tariffs : IsTariffs o.tariffs
