-- An office that begins anew at a day: the amounts of the 69 days before it become its history, and its tariffs stay.
use Rattle.std.specs.Prelude.{ℕ, ◌-◌, ◌&&◌, nat_le, nat_lt, Bool, List, [], ◌∷◌, ◌++◌, length, None, pos}
use Rattle.std.specs.List.{flat_map, list_all}
use Rattle.road_time.specs.declared.day.SpentRow.{SpentRow}
use Rattle.road_time.specs.Numbers.{numbers_text}
use Rattle.keep_office.specs.declared.kept.PastRecord.{PastRecord}
use Rattle.keep_office.specs.Office.{Office, rows_between}
use Rattle.keep_office.specs.Kept.{with_past}
use Rattle.keep_office.specs.PastReads.{past_record, next_past}

-- an office with no day, no amount and no history, and with the tariffs that it had
abbrev pub emptied : Office → Office
emptied o = record { days = []; rows = []; past = None; tariffs = o.tariffs }

-- an office that keeps this history with its amounts, and of what it kept before the tariffs alone
abbrev pub anew : PastRecord → List SpentRow → Office → Office
anew kept rows o = with_past kept rows (emptied o)

-- the amounts of the 69 days before a base
abbrev pub history_rows : ℕ → Office → List SpentRow
history_rows base o = rows_between o (base - 69) (base - 1)

-- an amount as a line of a history with this base, without LF
abbrev pub history_line : ℕ → SpentRow → List ℕ
history_line base r = numbers_text (pos r.vid ∷ pos (base - r.day) ∷ pos r.xway ∷ pos r.tolls ∷ [])

-- the same with LF at its end
abbrev pub ended_line : ℕ → SpentRow → List ℕ
ended_line base r = history_line base r ++ 10 ∷ []

-- amounts as a history's file with this base
abbrev pub history_text : ℕ → List SpentRow → List ℕ
history_text base rows = flat_map (ended_line base) rows

-- the record of the history that amounts are
abbrev pub renewed_record : ℕ → List SpentRow → PastRecord
renewed_record base rows = past_record base (history_text base rows) rows

-- the office that begins anew at a base: what keeping these amounts as a history makes of an office that has nothing
-- but the tariffs
abbrev pub renewed : ℕ → Office → Office
renewed base o = next_past base (history_text base (history_rows base o)) (history_rows base o) (emptied o)

-- a history with this base may have an amount
abbrev pub is_fit : ℕ → SpentRow → Bool
is_fit base r =
    nat_le (base - 69) r.day && (nat_lt r.day base && (nat_le r.vid 2147483647
    && (nat_lt 0 r.tolls && nat_le r.tolls 9999999999)))

-- a history may have these amounts, so many at most
abbrev pub are_fit : ℕ → List SpentRow → Bool
are_fit base rows = nat_le (length rows) 4000000000 && list_all (is_fit base) rows
