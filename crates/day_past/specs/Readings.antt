-- Lines of a history that are read on.
use Rattle.std.specs.Prelude.{ℕ, ◌≡◌, ◌≤◌, ◌+◌, ◌++◌, ◌∷◌, [], List, Bool, false, true, length, Option, Some, None}
use Rattle.std.specs.Prelude.{Result, Ok, Err}
use Rattle.std.specs.List.{list_any}
use Rattle.road_time.specs.declared.day.Limits.{Limits}
use Rattle.road_time.specs.declared.day.SpentRow.{SpentRow}
use Rattle.road_time.specs.Lines.{lines_of}
use Rattle.road_io.specs.Cutter.{ahead, line_number}
use Rattle.road_time.specs.History.{is_row}
use Rattle.keep_office.specs.PastReads.{PastFault, past_fault, past_amounts, past_reads, past_after, past_kept}
use Rattle.keep_office.specs.PastReads.{past_record}
use Rattle.day_reading.specs.declared.consumed.Consumed.{Consumed}
use Rattle.day_reading.specs.Days.{StopsSoon}
use Rattle.day_reading.specs.Readings.{HasTaken, HasReadLines}
use Rattle.day_past.specs.Causes.{IsCause}
use Rattle.day_past.specs.Rows.{HasRows}
use Rattle.day_past.specs.declared.outcomes.PastCause.{PastCause}
use Rattle.day_past.specs.declared.outcomes.PastCause.TheVariants as causes
use Rattle.day_past.specs.declared.amounts.Amounts.{Amounts}
use Rattle.day_past.specs.declared.judging.PastStop.{PastStop}
use Rattle.day_past.specs.declared.judging.PastStop.TheVariants.{Row, ReadFault, NoMemory}
use Rattle.day_past.specs.declared.past_reader.PastReader.{PastReader}
use Rattle.day_past.specs.declared.history.History.{History}

-- some amounts were taken
abbrev pub GathersRows : Amounts → ℕ → Type 0
GathersRows a base = (rows : List SpentRow) × HasRows a base rows

-- an amount was taken, or one of its vehicle, day and expressway was taken before
abbrev pub TakesRow : Option PastStop → ℕ → List SpentRow → SpentRow → Amounts → Type 0
TakesRow None base rows r a = (list_any (is_row r.day r.vid r.xway) rows ≡ false) × HasRows a base (rows ++ r ∷ [])
TakesRow (Some (Row n cause)) base rows r a = list_any (is_row r.day r.vid r.xway) rows ≡ true
TakesRow (Some ReadFault) base rows r a = Unit {0}
TakesRow (Some NoMemory) base rows r a = Unit {0}

-- the reading stops at this line, which has an amount that comes twice, or for want of memory
abbrev pub StopsTwice : ℕ → Option PastStop → Type 0
StopsTwice number None = Unit {0}
StopsTwice number (Some (Row n cause)) = (n ≡ number) × (cause ≡ causes.Twice)
StopsTwice number (Some ReadFault) = ⊥
StopsTwice number (Some NoMemory) = Unit {0}

-- a line was judged behind those before it
abbrev pub JudgesRow : Option PastStop → ℕ → Limits → ℕ → List ℕ → Amounts → Amounts → Type 0
JudgesRow None base limits number line old new =
    (before : List (List ℕ)) → length before + 1 ≡ number → HasRows old base (past_amounts base before)
    → (past_fault base limits before line ≡ None) × HasRows new base (past_amounts base (before ++ line ∷ []))
JudgesRow (Some (Row n cause)) base limits number line old new = (n ≡ number)
    × ((before : List (List ℕ)) → length before + 1 ≡ number → HasRows old base (past_amounts base before) →
    (fault : PastFault) × (past_fault base limits before line ≡ Some fault) × IsCause fault cause)
JudgesRow (Some ReadFault) base limits number line old new = ⊥
JudgesRow (Some NoMemory) base limits number line old new = Unit {0}

-- lines are read on: those before were all let in, and the rest lies ahead
pub record ReadsPastOn (front : Option (List ℕ)) (number : ℕ) (consumed : Consumed) (amounts : Amounts) (base : ℕ)
    (limits : Limits) (bytes : List ℕ) : Type 0 where
  pub before : List (List ℕ)
  pub taken : List ℕ
  pub now : List ℕ
  pub ahead_is : front ≡ Some now
  pub bytes_are : bytes ≡ taken ++ now
  pub has_taken : HasTaken consumed taken
  pub read_is : past_reads bytes base limits ≡ past_after base limits before (lines_of now)
  pub number_is : number ≡ length before
  pub rows_are : HasRows amounts base (past_amounts base before)

-- a reader reads the history that the bytes are, where so much of the source is left
abbrev pub IsReadingPast : PastReader → ℕ → Limits → Option (List ℕ) → List ℕ → Type 0
IsReadingPast r base limits left bytes =
    ReadsPastOn (ahead r.cutter left) (line_number r.cutter) r.consumed r.amounts base limits bytes

-- what a reader took and holds of a source's bytes, and what is left of them, is all that the source had; and it took
-- no more lines than it cut
abbrev pub HasReadPastOf : PastReader → Option (List ℕ) → List ℕ → Type 0
HasReadPastOf r left bytes = HasReadLines (ahead r.cutter left) (line_number r.cutter) r.consumed bytes

-- all lines were read, and no byte is left
pub record EndsPast (consumed : Consumed) (amounts : Amounts) (base : ℕ) (limits : Limits) (left : Option (List ℕ))
    (bytes : List ℕ) : Type 0 where
  pub unrefused : (past_reads bytes base limits).refused ≡ None
  pub has_taken : HasTaken consumed bytes
  pub rows_are : HasRows amounts base (past_reads bytes base limits).rows
  pub none_left : left ≡ Some []

-- a line was refused
abbrev pub RefusesPast : ℕ → PastCause → ℕ → Limits → List ℕ → Type 0
RefusesPast line cause base limits bytes =
    (fault : PastFault) × ((past_reads bytes base limits).refused ≡ Some (line, fault)) × IsCause fault cause

-- a line more was read, or all were, or one was refused
abbrev pub Steps : Result Bool PastStop → PastReader → ℕ → Limits → Option (List ℕ) → List ℕ → Type 0
Steps (Ok true) r base limits left bytes = IsReadingPast r base limits left bytes
Steps (Ok false) r base limits left bytes = EndsPast r.consumed r.amounts base limits left bytes
Steps (Err (Row line cause)) r base limits left bytes = RefusesPast line cause base limits bytes
Steps (Err ReadFault) r base limits left bytes = Unit {0}
Steps (Err NoMemory) r base limits left bytes = Unit {0}

-- all lines were read, or one was refused
abbrev pub EndsReadingPast : Option PastStop → PastReader → ℕ → Limits → Option (List ℕ) → List ℕ → Type 0
EndsReadingPast None r base limits left bytes = EndsPast r.consumed r.amounts base limits left bytes
EndsReadingPast (Some (Row line cause)) r base limits left bytes = RefusesPast line cause base limits bytes
EndsReadingPast (Some ReadFault) r base limits left bytes = Unit {0}
EndsReadingPast (Some NoMemory) r base limits left bytes = Unit {0}

-- a history that was read whole is the one that the bytes are, or the first refused line is
abbrev pub ReadsPast : Result History PastStop → ℕ → Limits → Option (List ℕ) → List ℕ → Type 0
ReadsPast (Ok h) base limits left bytes =
    ((past_reads bytes base limits).refused ≡ None)
    × (h.past ≡ past_record base bytes (past_reads bytes base limits).rows)
    × (h.rows.items ≡ past_kept (past_reads bytes base limits).rows) × (left ≡ Some [])
ReadsPast (Err (Row line cause)) base limits left bytes = RefusesPast line cause base limits bytes
ReadsPast (Err ReadFault) base limits left bytes = Unit {0}
ReadsPast (Err NoMemory) base limits left bytes = Unit {0}

-- a refused line that stops the reading is the last of so many that were cut, or the one behind them
abbrev pub StopsPastAfter : PastStop → ℕ → Type 0
StopsPastAfter (Row line cause) n = n ≤ line
StopsPastAfter ReadFault n = Unit {0}
StopsPastAfter NoMemory n = Unit {0}

-- where a refused line stopped the reading, no more than one buffer behind it was read
abbrev pub StopsSoonAt : PastStop → List ℕ → Option (List ℕ) → Type 0
StopsSoonAt (Row line cause) bytes left = StopsSoon line bytes left
StopsSoonAt ReadFault bytes left = Unit {0}
StopsSoonAt NoMemory bytes left = Unit {0}
