-- What a day that was imported, and one that was stopped, leaves.
use Rattle.std.specs.Prelude.{◌≡◌, ◌≤◌, ℕ, Bool, true, List, ◌++◌, length, Option, Some}
use Rattle.std.specs.Option.{option_map}
use Rattle.std.specs.Io.KnownBytes.{Appends}
use Rattle.road_time.specs.declared.tariff.TheConstants.{GREATEST_TOLL}
use Rattle.road_time.specs.declared.road.Tuple.{Tuple}
use Rattle.road_time.specs.declared.day.Limits.{Limits}
use Rattle.road_time.specs.Rates.{Tariffs}
use Rattle.road_time.specs.Sights.{Sight}
use Rattle.road_time.specs.Tolls.{StretchTold as RoadFinding}
use Rattle.road_time.specs.Fits.{Fit}
use Rattle.road_time.specs.Reads.{reads}
use Rattle.road_time.specs.Day.{given, rules, notices, merged}
use Rattle.road_time.specs.Text.{out}
use Rattle.day_floor.specs.Operations.{Operation, Posted}
use Rattle.day_reading.specs.Days.{EndsReading, IsShortDay}
use Rattle.ways_expressway.specs.declared.job.Job.{Job}
use Rattle.ways_expressway.specs.declared.finding.Finding.{Finding}
use Rattle.ways_crews.specs.Told.{CrewTold, WhereTold}
use Rattle.ways_crews.specs.Callers.{ListsAll, ListsFirst}
use Rattle.day_floor.specs.Answers.{PaidHistory}
use Rattle.day_floor.specs.Closes.{IsClosed}
use Rattle.day_floor.specs.Floors.{Setting}
use Rattle.day_import.specs.declared.fault.DayFault.{DayFault}
use Rattle.day_import.specs.declared.day.WorkedDay.{WorkedDay}
use Rattle.day_import.specs.DayFaults.{WritesUpTo}
use Rattle.day_import.specs.WorkedDays.{AreRightFor, HaveAllStarted, HaveFirstStarted}
use Rattle.day_import.specs.Published.{AreStepsBy, HasSteps, published_of}
use Rattle.day_import.specs.RoundRuns.{HasAnswered}

-- how a day is to be imported: over so many workers, under which limits, with which lateness, under which tariffs,
-- with which number, after which history
pub record Task : Type 0 where
  pub width : ℕ
  pub limits : Limits
  pub late : ℕ
  pub tariffs : Tariffs
  pub number : ℕ
  pub history : PaidHistory

-- the task of importing a day in this setting
abbrev pub task_of : Setting → ℕ → Limits → ℕ → Task
task_of e width limits late =
    record { width = width; limits = limits; late = late; tariffs = e.tariffs; number = e.number; history = e.history }

-- since an earlier time a publisher has published steps of a day by findings, up to a mark
pub record HasStepsBy (finding : Sight → RoadFinding) (t : Task) (day : List Tuple) (mark : ℕ)
    (old now : Option Posted) : Type 0 where
  pub steps : List Operation
  pub are : AreStepsBy finding day t.limits.backlog 0 mark steps
  pub published : published_of now ≡ option_map (λ p. p.published ++ steps) old

-- jobs that were started are all of each worker's, and are listed
abbrev pub HasStartedAll : Task → List Tuple → Option CrewTold → Option CrewTold → Type 0
HasStartedAll t day jobs listed = (since : List Job) × HaveAllStarted t.width t.limits.backlog day since
    × WhereTold (ListsAll since) jobs listed

-- jobs that were started are the first of each worker's, and the first of them are listed
abbrev pub HasStartedFirst : Task → List Tuple → Option CrewTold → Option CrewTold → Type 0
HasStartedFirst t day jobs listed = (since : List Job) × HaveFirstStarted t.width t.limits.backlog day since
    × WhereTold (ListsFirst since) jobs listed

-- a day of some bytes was imported: the tuples that were read are all of those that the bytes are; what was written,
-- closed and published of them is by the findings that the
-- crew answered, and over an exact crew by the rules; and the jobs that were started are all of each worker's
pub record HasImported (t : Task) (exact : Bool) (is : List ℕ → Type 0) (answers answered : Option (List Finding))
    (jobs listed : Option CrewTold) (old new : Option (List ℕ)) (was posted : Option Posted) (run : WorkedDay) : Type
    0 where
  pub day : List Tuple
  pub fit : Fit day t.limits
  pub read : (bytes : List ℕ) → is bytes → (day ≡ (reads bytes t.limits t.late).tuples)
      × EndsReading run.end bytes (reads bytes t.limits t.late).refused
  pub short : IsShortDay run.end
  pub count : run.tuples ≡ length day
  pub found : List (ℕ × RoadFinding)
  pub found_are : HasAnswered answers found answered
  pub few : (s : Sight) → (given found s).toll ≤ GREATEST_TOLL
  pub wrote : (kept : ℕ → ℕ → ℕ → ℕ) → t.history ≡ Some kept → Appends old new (out (merged day found t.number kept))
  pub exactly : exact ≡ true → (kept : ℕ → ℕ → ℕ → ℕ) → t.history ≡ Some kept →
      Appends old new (out (notices day t.tariffs t.number kept))
  pub closed : IsClosed run.closed t.number (given found) t.number t.history day
  pub right : exact ≡ true → AreRightFor found day t.tariffs t.number
  pub stepped : HasStepsBy (given found) t day (length day) was posted
  pub stepped_right : exact ≡ true → HasStepsBy (rules day t.tariffs) t day (length day) was posted
  pub started : HasStartedAll t day jobs listed

-- a day of some bytes was stopped: over an exact crew some first bytes of its output were written, and after a write
-- fault not all, and what was published are steps
-- of it by the rules; and the jobs that were started are the first of each worker's
pub record HasStopped (t : Task) (exact : Bool) (is : List ℕ → Type 0) (jobs listed : Option CrewTold)
    (old new : Option (List ℕ)) (was posted : Option Posted) (fault : DayFault) : Type 0 where
  pub front : exact ≡ true → (bytes : List ℕ) → is bytes → (kept : ℕ → ℕ → ℕ → ℕ) → t.history ≡ Some kept
      → WritesUpTo fault (out (notices (reads bytes t.limits t.late).tuples t.tariffs t.number kept)) old new
  pub steps : exact ≡ true → (bytes : List ℕ) → is bytes →
      HasSteps t.tariffs (reads bytes t.limits t.late).tuples t.limits.backlog was posted
  pub started : (bytes : List ℕ) → is bytes → HasStartedFirst t (reads bytes t.limits t.late).tuples jobs listed
