-- What may be put, and the office afterwards: a day, a history or a tariff more.
use Rattle.std.specs.Prelude.{◌≡◌, ℕ, ◌+◌, ◌^◌, ◌<◌, ◌≤◌, List, [], ◌∷◌, ◌++◌, map, length, Option, Some, None}
use Rattle.std.specs.List.{AllByRecursion}
use Rattle.road_time.specs.declared.day.SpentRow.{SpentRow}
use Rattle.road_time.specs.declared.road.Tuple.{Tuple}
use Rattle.road_time.specs.declared.tariff.Tariff.{Tariff}
use Rattle.road_time.specs.Rates.{Tariffs}
use Rattle.road_time.specs.Tariffs.{with_tariff, tariffs_text}
use Rattle.road_time.specs.Day.{notices, total}
use Rattle.road_time.specs.Rows.{rows_of}
use Rattle.road_time.specs.Text.{out}
use Rattle.road_digest.specs.declared.digest.Digest.{Digest}
use Rattle.keep_office.specs.declared.kept.DayRecord.{DayRecord}
use Rattle.keep_office.specs.declared.kept.OldRecord.{OldRecord}
use Rattle.keep_office.specs.declared.kept.PastRecord.{PastRecord}
use Rattle.road_digest.specs.Digests.{digest_of}
use Rattle.road_time.specs.History.{paid}
use Rattle.keep_office.specs.Office.{Office, RowsRise, sum_of_rows, last_day}

-- the seal of tariffs: the digest of their lines
abbrev pub seal_of : Tariffs → Digest
seal_of tariffs = digest_of (tariffs_text tariffs)

-- an old record under the tariffs that a seal stands for
abbrev pub sealed : Digest → OldRecord → DayRecord
sealed tariffs r =
    record {
      day = r.day;
      digest = r.digest;
      bytes = r.bytes;
      tuples = r.tuples;
      notices = r.notices;
      notices_digest =
          r.notices_digest;
      tariffs = tariffs;
      total = r.total;
    }

-- an office that kept its days before tariffs were
abbrev pub old_office : List OldRecord → List SpentRow → Option PastRecord → Office
old_office days rows past = record { days = map (sealed (seal_of [])) days; rows = rows; past = past; tariffs = [] }

-- an office with one day more and its amounts
abbrev pub with_day : DayRecord → List SpentRow → Office → Office
with_day kept rows o = record { days = o.days ++ kept ∷ []; rows = o.rows ++ rows; past = o.past; tariffs = o.tariffs }

-- an office with a history and its amounts
abbrev pub with_past : PastRecord → List SpentRow → Office → Office
with_past kept rows o = record { days = o.days; rows = o.rows ++ rows; past = Some kept; tariffs = o.tariffs }

-- an office with a tariff for an expressway
abbrev pub with_tariff_of : ℕ → Tariff → Office → Office
with_tariff_of xway tariff o =
    record { days = o.days; rows = o.rows; past = o.past; tariffs = with_tariff o.tariffs xway tariff }

-- a day may be kept: numbers below 2^63, amounts of the day, above zero, in rising order, and as much as its total
pub record IsDayPut (kept : DayRecord) (rows : List SpentRow) : Type 0 where
  pub bytes : kept.bytes < 2 ^ 63
  pub tuples : kept.tuples < 2 ^ 63
  pub notices : kept.notices < 2 ^ 63
  pub total : kept.total < 2 ^ 63
  pub of_day : AllByRecursion (λ r. r.day ≡ kept.day) rows
  pub above_zero : AllByRecursion (λ r. 0 < r.tolls) rows
  pub rise : RowsRise rows
  pub sum : sum_of_rows rows ≡ kept.total

-- a history may be kept: a base from 70, numbers below 2^63, amounts of the 69 days before the base, above zero, in
-- rising order, and as many as it says
pub record IsPastPut (kept : PastRecord) (rows : List SpentRow) : Type 0 where
  pub based : 70 ≤ kept.base
  pub bytes : kept.bytes < 2 ^ 63
  pub few : kept.rows < 2 ^ 63
  pub from : AllByRecursion (λ r. kept.base ≤ r.day + 69) rows
  pub to : AllByRecursion (λ r. r.day < kept.base) rows
  pub above_zero : AllByRecursion (λ r. 0 < r.tolls) rows
  pub small : AllByRecursion (λ r. r.tolls < 2 ^ 63) rows
  pub rise : RowsRise rows
  pub counted : length rows ≡ kept.rows

-- a day comes after all that is kept
abbrev pub IsLater : ℕ → Office → Type 0
IsLater day o = last_day o < day

-- no day and no history is kept
pub record HasNoDays (o : Office) : Type 0 where
  pub days : o.days ≡ []
  pub past : o.past ≡ None

-- what is kept of a day with this number, these bytes and these tuples, after what an office keeps
abbrev pub kept_record : ℕ → List ℕ → List Tuple → Office → DayRecord
kept_record number bytes day o =
    let told = notices day o.tariffs number (paid o.rows) in
    record {
      day = number;
      digest = digest_of bytes;
      bytes = length bytes;
      tuples = length day;
      notices =
          length told;
      notices_digest = digest_of (out told);
      tariffs = seal_of o.tariffs;
      total =
          total day o.tariffs day;
    }

-- the office after a day was imported
abbrev pub next_office : ℕ → List ℕ → List Tuple → Office → Office
next_office number bytes day o = with_day (kept_record number bytes day o) (rows_of day o.tariffs number) o
