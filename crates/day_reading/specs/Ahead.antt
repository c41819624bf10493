-- A reader that has read one tuple ahead.
use Rattle.std.specs.Prelude.{ℕ, Bool, true, false, ◌++◌, ◌∷◌, [], List, Option, Some, None, Result, Ok, Err}
use Rattle.road_time.specs.declared.road.Tuple.{Tuple}
use Rattle.road_time.specs.declared.day.Limits.{Limits}
use Rattle.day_reading.specs.declared.day_ahead.DayAhead.{DayAhead}
use Rattle.day_reading.specs.declared.day_ahead.Following.{Following}
use Rattle.day_reading.specs.declared.day_ahead.Following.TheVariants.{Waits, Ends, Stops}
use Rattle.day_reading.specs.declared.ending.ReadEnd.{ReadEnd}
use Rattle.day_reading.specs.declared.ending.ReadEnd.TheVariants.{Refused}
use Rattle.day_reading.specs.declared.whole_day.ReadStop.{ReadStop}
use Rattle.day_reading.specs.Readings.{GivesTuple, GathersOn, HasReadOf, HasReaderFailed}

-- the reader's answer behind what was given
abbrev pub answer_of : Following → Result (Option Tuple) ReadEnd
answer_of (Waits x) = Ok (Some x)
answer_of Ends = Ok None
answer_of (Stops line cause) = Err (Refused line cause)

-- whether a tuple waits
abbrev pub is_waiting : Following → Bool
is_waiting (Waits x) = true
is_waiting Ends = false
is_waiting (Stops line cause) = false

-- whether a tuple is left
abbrev pub has_more : DayAhead → Bool
has_more d = is_waiting d.following

-- so much was given of the day that the bytes are, and what follows is known
abbrev pub IsAhead : DayAhead → Limits → ℕ → Option (List ℕ) → List ℕ → List Tuple → Type 0
IsAhead d limits late left bytes given = GivesTuple (answer_of d.following) d.reader limits late left bytes given

-- what was given, with the tuple that waits, is a day that the limits allow, also over a source that does not tell its
-- bytes
abbrev pub IsGatheringAhead : DayAhead → Limits → ℕ → List Tuple → Type 0
IsGatheringAhead d limits late given = GathersOn (answer_of d.following) d.reader limits late given

-- what was taken and is held of a source's bytes, and what is left of them, is all that the source had
abbrev pub HasReadAhead : DayAhead → ℕ → Option (List ℕ) → List ℕ → Type 0
HasReadAhead d lines left bytes = HasReadOf d.reader lines left bytes

-- whether the digest of its bytes is asked
abbrev pub is_digested : DayAhead → Bool
is_digested d = d.reader.consumed.digested

-- the source failed before
abbrev pub HasFailedAhead : DayAhead → Type 0
HasFailedAhead d = HasReaderFailed d.reader

-- an answer of `next`: one tuple more, or none where the whole day was given; a fault is free
abbrev pub GivesAhead : Result (Option Tuple) ReadStop → DayAhead → Limits → ℕ → Option (List ℕ) → List ℕ → List Tuple →
    Type 0
GivesAhead (Ok (Some x)) d limits late left bytes given = IsAhead d limits late left bytes (given ++ x ∷ [])
GivesAhead (Ok None) d limits late left bytes given = IsAhead d limits late left bytes given
GivesAhead (Err stop) d limits late left bytes given = Unit {0}

-- the same over a source that does not tell its bytes
abbrev pub GathersAhead : Result (Option Tuple) ReadStop → DayAhead → Limits → ℕ → List Tuple → Type 0
GathersAhead (Ok (Some x)) d limits late given = IsGatheringAhead d limits late (given ++ x ∷ [])
GathersAhead (Ok None) d limits late given = IsGatheringAhead d limits late given
GathersAhead (Err stop) d limits late given = Unit {0}
