-- What the puts write: texts, each with its values.
use Rattle.std.specs.Prelude.{ℕ, Bool, true, false, List, [], ◌∷◌, map, pos}
use Rattle.sqlite_value.specs.declared.value.Value.TheVariants.{Int, Blob}
use Rattle.sqlite_value.specs.Order.{Row}
use Rattle.road_time.specs.declared.day.SpentRow.{SpentRow}
use Rattle.road_time.specs.declared.tariff.Tariff.{Tariff}
use Rattle.road_time.specs.Rates.{benchmark, same_tariff}
use Rattle.road_digest.specs.declared.digest.Digest.{Digest}
use Rattle.keep_office.specs.declared.kept.DayRecord.{DayRecord}
use Rattle.keep_office.specs.declared.kept.PastRecord.{PastRecord}
use Rattle.keep_tables.specs.Codec.{day_values, past_values, spent_row}
use Rattle.keep_tables.specs.Shown.{tariff_columns}
use Rattle.keep_tables.specs.Texts.{put_day, put_seal, put_spent, put_past, drop_tariff, put_tariff}

-- a day's own text
abbrev pub record_text : DayRecord → List ℕ × Row
record_text kept = (put_day, day_values kept)

-- that of a day's seal
abbrev pub seal_text : ℕ → Digest → List ℕ × Row
seal_text day seal = (put_seal, Int (pos day) ∷ Blob seal.bytes ∷ [])

-- that of an amount
abbrev pub amount_text : SpentRow → List ℕ × Row
amount_text row = (put_spent, spent_row row)

-- all texts of a day: its record, its seal, then its amounts
abbrev pub day_texts : DayRecord → List SpentRow → List (List ℕ × Row)
day_texts kept rows = record_text kept ∷ seal_text kept.day kept.tariffs ∷ map amount_text rows

-- a history's own text
abbrev pub history_text : PastRecord → List ℕ × Row
history_text kept = (put_past, past_values kept)

-- all texts of a history: its record, then its amounts
abbrev pub past_texts : PastRecord → List SpentRow → List (List ℕ × Row)
past_texts kept rows = history_text kept ∷ map amount_text rows

-- that by which an expressway's own tariff is taken away
abbrev pub taken_text : ℕ → List ℕ × Row
taken_text xway = (drop_tariff, Int (pos xway) ∷ [])

-- that by which it is given one
abbrev pub given_text : ℕ → Tariff → List ℕ × Row
given_text xway tariff = (put_tariff, tariff_columns (xway, tariff))

-- the benchmark's tariff is given by none
abbrev pub given_texts : ℕ → Tariff → Bool → List (List ℕ × Row)
given_texts xway tariff true = []
given_texts xway tariff false = given_text xway tariff ∷ []

-- all texts of a tariff: its own is taken away, then it is given another
abbrev pub tariff_texts : ℕ → Tariff → List (List ℕ × Row)
tariff_texts xway tariff = taken_text xway ∷ given_texts xway tariff (same_tariff tariff benchmark)
