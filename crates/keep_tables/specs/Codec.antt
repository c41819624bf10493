-- How a record is a row of its table, and which record a row is.
use Rattle.std.specs.Prelude.{ℕ, [], ◌∷◌, pos}
use Rattle.sqlite_value.specs.declared.value.Value.TheVariants.{Null, Int, Blob}
use Rattle.sqlite_value.specs.Order.{Row, column, bytes}
use Rattle.sqlite_trees.specs.Objects.{number_in}
use Rattle.road_time.specs.declared.day.SpentRow.{SpentRow}
use Rattle.road_time.specs.declared.tariff.Tariff.{Tariff}
use Rattle.road_digest.specs.declared.digest.Digest.{Digest}
use Rattle.keep_office.specs.declared.kept.DayRecord.{DayRecord}
use Rattle.keep_office.specs.declared.kept.OldRecord.{OldRecord}
use Rattle.keep_office.specs.declared.kept.PastRecord.{PastRecord}

-- how a table keeps a day, whose number is the number of its row; its seal stands in a table of its own
abbrev pub day_row : DayRecord → Row
day_row r =
    Int (pos r.day) ∷ Null ∷ Blob r.digest.bytes ∷ Int (pos r.bytes) ∷ Int (pos r.tuples) ∷ Int (pos r.notices) ∷
    Blob r.notices_digest.bytes ∷ Int (pos r.total) ∷ []

-- how a table keeps the seal of a day
abbrev pub seal_row : DayRecord → Row
seal_row r = Int (pos r.day) ∷ Null ∷ Blob r.tariffs.bytes ∷ []

-- how a table of version 1 keeps a day
abbrev pub old_row : OldRecord → Row
old_row r =
    Int (pos r.day) ∷ Null ∷ Blob r.digest.bytes ∷ Int (pos r.bytes) ∷ Int (pos r.tuples) ∷ Int (pos r.notices) ∷
    Blob r.notices_digest.bytes ∷ Int (pos r.total) ∷ []

-- how a table keeps an amount, but for the number of its row
abbrev pub spent_row : SpentRow → Row
spent_row r = Int (pos r.day) ∷ Int (pos r.vid) ∷ Int (pos r.xway) ∷ Int (pos r.tolls) ∷ []

-- how a table keeps a history
abbrev pub past_row : PastRecord → Row
past_row p = Int (pos 1) ∷ Null ∷ Int (pos p.base) ∷ Blob p.digest.bytes ∷ Int (pos p.bytes) ∷ Int (pos p.rows) ∷ []

-- how a table keeps the tariff of an expressway
abbrev pub tariff_row : ℕ × Tariff → Row
tariff_row e = Int (pos e.0) ∷ Null ∷ Int (pos e.1.crowd) ∷ Int (pos e.1.speed) ∷ Int (pos e.1.factor) ∷ []

-- how a table keeps the version
abbrev pub version_row : Row
version_row = Int (pos 1) ∷ Null ∷ Int (pos 2) ∷ []

-- the values that a statement puts a day with
abbrev pub day_values : DayRecord → Row
day_values r =
    Int (pos r.day) ∷ Blob r.digest.bytes ∷ Int (pos r.bytes) ∷ Int (pos r.tuples) ∷ Int (pos r.notices) ∷
    Blob r.notices_digest.bytes ∷ Int (pos r.total) ∷ []

-- the values that a statement puts a seal with
abbrev pub seal_values : DayRecord → Row
seal_values r = Int (pos r.day) ∷ Blob r.tariffs.bytes ∷ []

-- the values that a statement puts a history with
abbrev pub past_values : PastRecord → Row
past_values p = Int (pos p.base) ∷ Blob p.digest.bytes ∷ Int (pos p.bytes) ∷ Int (pos p.rows) ∷ []

-- the number in a column of a row
abbrev pub number_at : Row → ℕ → ℕ
number_at r at = number_in (column r at)

-- the digest in a column of a row
abbrev pub digest_at : Row → ℕ → Digest
digest_at r at = record { bytes = bytes (column r at) }

-- the day that a row is
abbrev pub old_from : Row → OldRecord
old_from r =
    record {
      day = number_at r 0;
      digest = digest_at r 2;
      bytes = number_at r 3;
      tuples = number_at r 4;
      notices = number_at r 5;
      notices_digest = digest_at r 6;
      total = number_at r 7;
    }

-- the amount that a row is
abbrev pub spent_from : Row → SpentRow
spent_from r = record { day = number_at r 1; vid = number_at r 2; xway = number_at r 3; tolls = number_at r 4 }

-- the history that a row is
abbrev pub past_from : Row → PastRecord
past_from r = record { base = number_at r 2; digest = digest_at r 3; bytes = number_at r 4; rows = number_at r 5 }

-- the expressway and its tariff that a row is
abbrev pub tariff_from : Row → ℕ × Tariff
tariff_from r = (number_at r 0, record { crowd = number_at r 2; speed = number_at r 3; factor = number_at r 4 })
