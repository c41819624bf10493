-- How bytes are read as a history: which line is refused first and why, and what is kept of it.
use Rattle.std.specs.Prelude.{ℕ, ◌-◌, ◌+◌, ◌==◌, nat_lt, nat_le, List, [], ◌∷◌, ◌++◌, length, Option, Some, None}
use Rattle.std.specs.Prelude.{Result, Ok, Err, ℤ, pos, if◌then◌else◌}
use Rattle.std.specs.List.{filter, filter_map, fold, list_any}
use Rattle.std.specs.Ordering.{match_ordering}
use Rattle.road_time.specs.declared.day.Limits.{Limits}
use Rattle.road_time.specs.declared.day.SpentRow.{SpentRow}
use Rattle.road_time.specs.Lines.{lines_of, without_cr}
use Rattle.road_time.specs.Numbers.{number_of, fields_of_text}
use Rattle.road_time.specs.Form.{Fault, Long, Many, Fields, Number, Range, Use, From, name, first_odd, first_out}
use Rattle.keep_office.specs.declared.kept.PastRecord.{PastRecord}
use Rattle.road_digest.specs.Digests.{digest_of}
use Rattle.road_time.specs.History.{is_row}
use Rattle.keep_office.specs.Office.{Office, row_cmp}
use Rattle.keep_office.specs.Kept.{with_past}

-- why a line of a history is refused: as a line of a day is, or an earlier line is of its vehicle, day and expressway
pub data PastFault : Type 0 where
  OfLine : Fault → PastFault
  Twice : PastFault

-- the fields of a history's line: VID, Day counted back, XWay, Tolls
abbrev pub past_uses : List Use
past_uses = name ∷ From 1 69 ∷ From 0 255 ∷ From 0 9999999999 ∷ []

-- the amount of a line's numbers, where the days are counted back from a base
abbrev pub past_amount : ℕ → List ℤ → Option SpentRow
past_amount base (pos vid ∷ pos day ∷ pos xway ∷ pos tolls ∷ []) =
    Some (record { day = base - day; vid = vid; xway = xway; tolls = tolls })
past_amount base _ = None

-- the amount of four numbers, unless one is out of its range
abbrev pub past_in_ranges : ℕ → List ℤ → Option ℕ → Result (Option SpentRow) PastFault
past_in_ranges base zs (Some n) = Err (OfLine (Range n))
past_in_ranges base zs None = Ok (past_amount base zs)

-- the amount of four fields, or the first that is no number
abbrev pub past_of_fields : ℕ → List (List ℕ) → Option ℕ → Result (Option SpentRow) PastFault
past_of_fields base fields (Some n) = Err (OfLine (Number n))
past_of_fields base fields None =
    (let zs = filter_map (number_of 10) fields in past_in_ranges base zs (first_out 1 past_uses zs))

-- the amount of a text, none for the empty text, or why there is none
abbrev pub past_form : ℕ → List ℕ → Result (Option SpentRow) PastFault
past_form base [] = Ok None
past_form base (b ∷ bs) =
    let fields = fields_of_text (b ∷ bs)
    in if length fields == 4 then past_of_fields base fields (first_odd fields) else Err
    (OfLine (Fields (length fields)))

-- the amount that a line has, if it has one
abbrev pub past_formed : Result (Option SpentRow) PastFault → Option SpentRow
past_formed (Ok o) = o
past_formed (Err f) = None

-- the amounts of lines
abbrev pub past_amounts : ℕ → List (List ℕ) → List SpentRow
past_amounts base lines = filter_map (λ l. past_formed (past_form base (without_cr l))) lines

-- why a line of this form is refused after these amounts
abbrev pub fault_of_past : List SpentRow → Result (Option SpentRow) PastFault → Option PastFault
fault_of_past rows (Err f) = Some f
fault_of_past rows (Ok None) = None
fault_of_past rows (Ok (Some r)) = if list_any (is_row r.day r.vid r.xway) rows then Some Twice else None

-- why a line is refused after the lines before it
abbrev pub past_fault : ℕ → Limits → List (List ℕ) → List ℕ → Option PastFault
past_fault base limits before line =
    if nat_lt 200 (length line) then Some (OfLine Long)
    else if nat_le limits.past (length before) then Some (OfLine (Many limits.past))
    else fault_of_past (past_amounts base before) (past_form base (without_cr line))

-- the amounts that were read, zeros too, and the number and fault of the line at which the reading ended, if one was
-- refused
pub record PastReading : Type 0 where
  pub rows : List SpentRow
  pub refused : Option (ℕ × PastFault)

-- the reading ends at a line that is refused, or goes on
abbrev pub past_at : ℕ → List (List ℕ) → Option PastFault → PastReading → PastReading
past_at base before None rest = rest
past_at base before (Some f) rest = record { rows = past_amounts base before; refused = Some (length before + 1, f) }

-- the amounts of the lines up to the first that is refused
abbrev pub past_after : ℕ → Limits → List (List ℕ) → List (List ℕ) → PastReading
past_after base limits before [] = record { rows = past_amounts base before; refused = None }
past_after base limits before (l ∷ ls) =
    past_at base before (past_fault base limits before l) (past_after base limits (before ++ l ∷ []) ls)

-- the history that bytes are, its days counted back from a base
abbrev pub past_reads : List ℕ → ℕ → Limits → PastReading
past_reads bytes base limits = past_after base limits [] (lines_of bytes)

-- the amounts with one more, in the order of rows
abbrev pub with_row : List SpentRow → SpentRow → List SpentRow
with_row [] r = r ∷ []
with_row (s ∷ ss) r = match_ordering (row_cmp r s) (r ∷ s ∷ ss) (r ∷ s ∷ ss) (s ∷ with_row ss r)

-- the amounts that are kept of a history: those above zero, in the order of rows
abbrev pub past_kept : List SpentRow → List SpentRow
past_kept rows = fold with_row [] (filter (λ r. nat_lt 0 r.tolls) rows)

-- what is kept of a history with these bytes and amounts
abbrev pub past_record : ℕ → List ℕ → List SpentRow → PastRecord
past_record base bytes rows =
    record { base = base; digest = digest_of bytes; bytes = length bytes; rows = length (past_kept rows) }

-- the office after a history was kept
abbrev pub next_past : ℕ → List ℕ → List SpentRow → Office → Office
next_past base bytes rows o = with_past (past_record base bytes rows) (past_kept rows) o
