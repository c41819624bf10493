-- Laws of an office that begins anew, which no code runs.
use Rattle.std.specs.Prelude.{◌≡◌, ℕ, ◌+◌, ◌<◌, ◌≤◌, true, length, List, None}
use Rattle.std.specs.List.{AllByRecursion}
use Rattle.road_time.specs.declared.day.Limits.{Limits}
use Rattle.road_time.specs.declared.road.Tuple.{Tuple}
use Rattle.road_time.specs.Fits.{IsDay}
use Rattle.road_time.specs.History.{paid}
use Rattle.keep_office.specs.Office.{Office, IsSound, last_day}
use Rattle.keep_office.specs.Kept.{kept_record}
use Rattle.keep_office.specs.PastReads.{past_reads}
use Rattle.keep_office.specs.Renewed.{history_rows, history_text, renewed, are_fit}

-- the amounts, written as a history's file, are read as that history, none refused
abbrev pub FileLaw : Type 0
FileLaw =
    (base : ℕ) (limits : Limits) (o : Office) → IsSound o → are_fit base (history_rows base o) ≡ true →
    AllByRecursion (λ r. r.xway ≤ 255) (history_rows base o) → length (history_rows base o) ≤ limits.past →
    past_reads (history_text base (history_rows base o)) base limits
    ≡ record { rows = history_rows base o; refused = None }

-- of each day that a request of a day from the base on may ask for, an office tells what it told before
abbrev pub AnswersLaw : Type 0
AnswersLaw =
    (base : ℕ) (o : Office) → IsSound o → 70 ≤ base → last_day o < base → (day vid xway : ℕ) → base ≤ day + 69 →
    paid (renewed base o).rows day vid xway ≡ paid o.rows day vid xway

-- a day from the base on is kept as it would have been: its notices, their digest and its total are the same
abbrev pub DayLaw : Type 0
DayLaw =
    (base : ℕ) (o : Office) → IsSound o → 70 ≤ base → last_day o < base → (number : ℕ) (bytes : List ℕ)
    (day : List Tuple) → base ≤ number → IsDay day →
    kept_record number bytes day (renewed base o) ≡ kept_record number bytes day o
