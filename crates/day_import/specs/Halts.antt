-- What is left of a day that is stopped.
use Rattle.std.specs.Prelude.{◌≡◌, ℕ, Bool, true, List, [], Option}
use Rattle.road_time.specs.declared.road.Tuple.{Tuple}
use Rattle.road_time.specs.declared.day.Limits.{Limits}
use Rattle.road_time.specs.Fits.{Fit}
use Rattle.road_time.specs.Reads.{reads}
use Rattle.day_floor.specs.Operations.{Posted}
use Rattle.day_reading.specs.declared.day_ahead.DayAhead.{DayAhead}
use Rattle.day_reading.specs.Ahead.{IsAhead}
use Rattle.ways_expressway.specs.Results.{AreFirst}
use Rattle.ways_expressway.specs.declared.job.Job.{Job}
use Rattle.ways_crews.specs.declared.crew.Crew.{Ghosts}
use Rattle.ways_crews.specs.Told.{CrewTold}
use Rattle.day_floor.specs.Shares.{State}
use Rattle.day_floor.specs.Floors.{Setting}
use Rattle.day_import.specs.declared.begun.Import.{Import}
use Rattle.day_import.specs.declared.fault.DayFault.{DayFault}
use Rattle.day_import.specs.DayFaults.{HasDayFront}
use Rattle.day_import.specs.Fronts.{HasText}
use Rattle.day_import.specs.Published.{HasStepped, HasSteps}
use Rattle.day_import.specs.RoundRuns.{Stopped}

-- a day was stopped after a state, and after some tuples were given: these tuples of it were read, the first of the
-- day that the bytes are; the jobs that were started are theirs; and with an exact crew
-- the text goes on to some first bytes of their output, and the steps are theirs by the rules
pub record IsHalted {S T : Type 0} (out : S → List ℕ) (number : T → ℕ) (holds : S → ℕ → Job → Type 0)
    (gave : S → T → Type 0) (exact : Bool) (jobs : S → Option CrewTold)
    (fault : DayFault) (e : Setting) (told : Option CrewTold) (width : ℕ) (limits : Limits) (late : ℕ) (s : State)
    (given : List Tuple) (ahead : DayAhead) (left : Option (List ℕ))
    (old new : Option (List ℕ)) (was posted : Option Posted) (run : Import T) (crew : S) : Type 0 where
  pub fed : List Tuple
  pub fit : Fit fed limits
  pub read : (bytes : List ℕ) → IsAhead ahead limits late left bytes given →
      AreFirst fed (reads bytes limits late).tuples
  pub stopped : Stopped out number holds gave jobs told width limits fed run crew
  pub front : exact ≡ true → (first : Option (List ℕ)) → HasText e s first old → HasDayFront fault e fed first new
  pub steps : exact ≡ true → (before : Option Posted) → HasStepped limits.backlog s before was →
      HasSteps e.tariffs fed limits.backlog before posted

-- the same of a day from its start
pub record IsCutDay {S T : Type 0} (out : S → List ℕ) (number : T → ℕ) (holds : S → ℕ → Job → Type 0)
    (gave : S → T → Type 0) (exact : Bool) (jobs : S → Option CrewTold)
    (fault : DayFault) (e : Setting) (told : Option CrewTold) (width : ℕ) (limits : Limits) (late : ℕ)
    (ahead : DayAhead)
    (left : Option (List ℕ))
    (old new : Option (List ℕ)) (was posted : Option Posted) (run : Import T) (crew : S) : Type 0 where
  pub fed : List Tuple
  pub fit : Fit fed limits
  pub read : (bytes : List ℕ) → IsAhead ahead limits late left bytes [] → AreFirst fed (reads bytes limits late).tuples
  pub stopped : Stopped out number holds gave jobs told width limits fed run crew
  pub front : exact ≡ true → HasDayFront fault e fed old new
  pub steps : exact ≡ true → HasSteps e.tariffs fed limits.backlog was posted

-- the same two of a crew by all that it tells
abbrev pub IsHaltedBy : {S T N : Type 0} → Ghosts S T N → DayFault → Setting → Option CrewTold → ℕ → Limits → ℕ →
    State → List Tuple → DayAhead → Option (List ℕ) → Option (List ℕ) → Option (List ℕ) → Option Posted →
    Option Posted → Import T → S → Type 0
IsHaltedBy c = IsHalted c.out c.number c.holds c.gave c.exact c.jobs

abbrev pub IsCutDayBy : {S T N : Type 0} → Ghosts S T N → DayFault → Setting → Option CrewTold → ℕ → Limits → ℕ →
    DayAhead → Option (List ℕ) → Option (List ℕ) → Option (List ℕ) → Option Posted → Option Posted → Import T → S →
    Type 0
IsCutDayBy c = IsCutDay c.out c.number c.holds c.gave c.exact c.jobs
