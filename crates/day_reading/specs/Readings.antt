-- A reader in the midst of a day.
use Rattle.std.specs.Prelude.{ℕ, ◌≡◌, ◌≤◌, ◌++◌, ◌∷◌, [], Bool, true, false, List, length, take, Option, Some, None}
use Rattle.std.specs.Prelude.{Result}
use Rattle.std.specs.Prelude.{Ok, Err}
use Rattle.road_time.specs.declared.road.Tuple.{Tuple}
use Rattle.road_time.specs.declared.day.Limits.{Limits}
use Rattle.road_time.specs.Lines.{lines_of}
use Rattle.road_time.specs.Form.{Fault}
use Rattle.road_time.specs.Fits.{Allowed, Fit}
use Rattle.road_time.specs.Order.{by_time}
use Rattle.road_time.specs.Reads.{reads, accepts, accepts_after, tuples_of}
use Rattle.road_io.specs.Cutter.{ahead, line_number}
use Rattle.road_digest.specs.Beside.{TookBeside}
use Rattle.tuples_text.specs.Causes.{cause_of}
use Rattle.tuples_text.specs.declared.cause.Cause.{Cause}
use Rattle.tuples_text.specs.Gates.{GateState, StandsFor}
use Rattle.tuples_text.specs.Sorting.{Sorting, IsSorting}
use Rattle.day_reading.specs.declared.ending.Ending.{Ending}
use Rattle.day_reading.specs.declared.ending.Ending.TheVariants.{Whole, Stopped}
use Rattle.day_reading.specs.declared.ending.ReadEnd.{ReadEnd}
use Rattle.day_reading.specs.declared.ending.ReadEnd.TheVariants.{Refused, ReadFault, NoMemory}
use Rattle.day_reading.specs.declared.consumed.Consumed.{Consumed}
use Rattle.day_reading.specs.declared.day_reader.DayReader.{DayReader}

-- what was given is the front of a day in the order of Time
abbrev pub IsFrontOf : List Tuple → List Tuple → Type 0
IsFrontOf given day = given ≡ take (length given) day

-- these bytes were taken, and counted, where the digest is asked also for the digest
abbrev pub HasTaken : Consumed → List ℕ → Type 0
HasTaken c bytes = (c.digested ≡ true → TookBeside c.digester bytes) × (c.bytes ≡ length bytes)

-- lines are read on: those before were all let in, and the rest lies ahead
pub record ReadsOn (front : Option (List ℕ)) (number : ℕ) (consumed : Consumed) (gate : GateState) (sorter : Sorting)
    (limits : Limits) (late : ℕ) (bytes : List ℕ) (given : List Tuple) : Type 0 where
  pub before : List (List ℕ)
  pub taken : List ℕ
  pub now : List ℕ
  pub ahead_is : front ≡ Some now
  pub bytes_are : bytes ≡ taken ++ now
  pub has_taken : HasTaken consumed taken
  pub accepted : accepts bytes limits late ≡ accepts_after limits late before (lines_of now)
  pub lines_are : lines_of bytes ≡ before ++ lines_of now
  pub number_is : number ≡ length before
  pub gate_is : StandsFor gate limits late (tuples_of before)
  pub sorter_is : IsSorting sorter late (tuples_of before) (length given) false

-- no line is read on: what was accepted waits to be given
abbrev pub GivesOut : Sorting → Limits → ℕ → List ℕ → List Tuple → Type 0
GivesOut sorter limits late bytes given =
    (ended : Bool) × IsSorting sorter late (accepts bytes limits late).tuples (length given) ended

-- all lines were read
abbrev pub EndsWhole : ℕ → Consumed → Limits → ℕ → List ℕ → Type 0
EndsWhole number consumed limits late bytes =
    ((accepts bytes limits late).refused ≡ None) × HasTaken consumed bytes × (number ≡ length (lines_of bytes))

-- a line was refused
abbrev pub EndsRefused : ℕ → Cause → Limits → ℕ → List ℕ → Type 0
EndsRefused line cause limits late bytes =
    (fault : Fault) × ((accepts bytes limits late).refused ≡ Some (line, fault)) × (cause_of fault ≡ cause)

-- where the reading of lines stands
abbrev pub StandsAt : Option Ending → Option (List ℕ) → ℕ → Consumed → GateState → Sorting → Limits → ℕ → List ℕ →
    List Tuple
    → Type 0
StandsAt None front number consumed gate sorter limits late bytes given =
    ReadsOn front number consumed gate sorter limits late bytes given
StandsAt (Some Whole) front number consumed gate sorter limits late bytes given =
    GivesOut sorter limits late bytes given × EndsWhole number consumed limits late bytes
StandsAt (Some (Stopped (Refused line cause))) front number consumed gate sorter limits late bytes given =
    GivesOut sorter limits late bytes given × EndsRefused line cause limits late bytes
StandsAt (Some (Stopped ReadFault)) front number consumed gate sorter limits late bytes given = Unit {0}
StandsAt (Some (Stopped NoMemory)) front number consumed gate sorter limits late bytes given = Unit {0}

-- what was accepted is given out before this end is answered
abbrev pub IsGivingOut : Ending → Type 0
IsGivingOut Whole = Unit {0}
IsGivingOut (Stopped (Refused line cause)) = Unit {0}
IsGivingOut (Stopped ReadFault) = ⊥
IsGivingOut (Stopped NoMemory) = ⊥

-- a reader reads the day that the bytes are, under limits and at a lateness, where so much of the source is left and
-- so much was given
pub record IsReading (r : DayReader) (limits : Limits) (late : ℕ) (left : Option (List ℕ)) (bytes : List ℕ)
    (given : List Tuple) : Type 0 where
  pub line_limit : r.intake.line_limit ≡ limits.lines
  pub count : r.given ≡ length given
  pub front : IsFrontOf given (reads bytes limits late).tuples
  pub stands : StandsAt r.end (ahead r.cutter left) (line_number r.cutter) r.consumed r.intake.gate r.intake.sorter
      limits
      late bytes given

-- the first of the bytes that a source had were taken, and counted; the rest lies ahead
pub record HasRead (front : Option (List ℕ)) (consumed : Consumed) (bytes : List ℕ) : Type 0 where
  pub taken : List ℕ
  pub now : List ℕ
  pub ahead_is : front ≡ Some now
  pub bytes_are : bytes ≡ taken ++ now
  pub count : consumed.bytes ≡ length taken

-- the same, and what was taken is so many lines at most
abbrev pub HasReadLines : Option (List ℕ) → ℕ → Consumed → List ℕ → Type 0
HasReadLines front number consumed bytes = (read : HasRead front consumed bytes)
    × (length (lines_of read.taken) ≤ number)

-- what a reader under a line limit took and holds of a source's bytes, and what is left of them, is all that the
-- source had
abbrev pub HasReadOf : DayReader → ℕ → Option (List ℕ) → List ℕ → Type 0
HasReadOf r lines left bytes =
    (r.intake.line_limit ≡ lines) × HasReadLines (ahead r.cutter left) (line_number r.cutter) r.consumed bytes

-- the source failed before
abbrev pub HasReaderFailed : DayReader → Type 0
HasReaderFailed r = r.end ≡ Some (Stopped ReadFault)

-- an answer of `next`: the next tuple, the end of a whole day, or the first refused line behind all that was accepted
abbrev pub GivesTuple : Result (Option Tuple) ReadEnd → DayReader → Limits → ℕ → Option (List ℕ) → List ℕ → List Tuple →
    Type 0
GivesTuple (Ok (Some x)) r limits late left bytes given = IsReading r limits late left bytes (given ++ x ∷ [])
GivesTuple (Ok None) r limits late left bytes given =
    IsReading r limits late left bytes given × (given ≡ (reads bytes limits late).tuples)
    × ((reads bytes limits late).refused ≡ None)
    × HasTaken r.consumed bytes × (line_number r.cutter ≡ length (lines_of bytes))
GivesTuple (Err (Refused line cause)) r limits late left bytes given =
    (given ≡ (reads bytes limits late).tuples) × EndsRefused line cause limits late bytes
    × IsReading r limits late left bytes given
GivesTuple (Err ReadFault) r limits late left bytes given = Unit {0}
GivesTuple (Err NoMemory) r limits late left bytes given = Unit {0}

-- a refused line that is answered is the last of so many that were cut, or the one behind them
abbrev pub RefusesAfter : Result (Option Tuple) ReadEnd → ℕ → Type 0
RefusesAfter r n = (line : ℕ) (cause : Cause) → r ≡ Err (Refused line cause) → n ≤ line

-- What is known of a reader also over a source that does not tell its bytes: what was given is a day that the limits
-- allow.

-- so much of the order of Time was given of what was put
abbrev pub GaveOf : Sorting → ℕ → List Tuple → List Tuple → Bool → Type 0
GaveOf sorter late put given ended = IsSorting sorter late put (length given) ended × IsFrontOf given (by_time put)

-- lines are read on after some that were all let in
pub record Gathers (number : ℕ) (gate : GateState) (sorter : Sorting) (limits : Limits) (late : ℕ)
    (given : List Tuple) : Type 0 where
  pub before : List (List ℕ)
  pub allowed : Allowed (tuples_of before) limits
  pub number_is : number ≡ length before
  pub gate_is : StandsFor gate limits late (tuples_of before)
  pub gave : GaveOf sorter late (tuples_of before) given false

-- lines are read no more, and what was let in waits
pub record Gathered (sorter : Sorting) (limits : Limits) (late : ℕ) (given : List Tuple) : Type 0 where
  pub put : List Tuple
  pub ended : Bool
  pub allowed : Allowed put limits
  pub gave : GaveOf sorter late put given ended

-- what was let in, by how the reading of lines stands
abbrev pub GathersAt : Option Ending → ℕ → GateState → Sorting → Limits → ℕ → List Tuple → Type 0
GathersAt None number gate sorter limits late given = Gathers number gate sorter limits late given
GathersAt (Some Whole) number gate sorter limits late given = Gathered sorter limits late given
GathersAt (Some (Stopped (Refused line cause))) number gate sorter limits late given = Gathered sorter limits late given
GathersAt (Some (Stopped ReadFault)) number gate sorter limits late given = Unit {0}
GathersAt (Some (Stopped NoMemory)) number gate sorter limits late given = Unit {0}

-- a reader gave these tuples, which the limits allow
pub record IsGathering (r : DayReader) (limits : Limits) (late : ℕ) (given : List Tuple) : Type 0 where
  pub line_limit : r.intake.line_limit ≡ limits.lines
  pub fit : Fit given limits
  pub stands : GathersAt r.end (line_number r.cutter) r.intake.gate r.intake.sorter limits late given

-- an answer of `next`: one tuple more, or no more; a refused line leaves what was given
abbrev pub GathersOn : Result (Option Tuple) ReadEnd → DayReader → Limits → ℕ → List Tuple → Type 0
GathersOn (Ok (Some x)) r limits late given = IsGathering r limits late (given ++ x ∷ [])
GathersOn (Ok None) r limits late given = IsGathering r limits late given
GathersOn (Err (Refused line cause)) r limits late given = IsGathering r limits late given
GathersOn (Err ReadFault) r limits late given = Unit {0}
GathersOn (Err NoMemory) r limits late given = Unit {0}
