-- Which outcome an import has by what its day's work came to.

use Rattle.std.specs.Prelude.{ℕ, ◌≡◌, ◌≤◌, ◌++◌, ◌⊎◌, List, ◌∷◌, length, Option, Some}
use Rattle.std.specs.Option.{option_map}
use Rattle.road_time.specs.declared.road.Tuple.{Tuple}
use Rattle.road_time.specs.Rates.{Tariffs}
use Rattle.road_time.specs.Tolls.{StretchTold as RoadFinding}
use Rattle.road_time.specs.Day.{rules}
use Rattle.ways_expressway.specs.declared.finding.Finding.{Finding}
use Rattle.ways_expressway.specs.declared.job.Job.{Job}
use Rattle.day_floor.specs.Operations.{Operation, Begin, Posted}
use Rattle.ways_crews.specs.Told.{CrewTold, WhereTold}
use Rattle.ways_crews.specs.Callers.{ListsAll, ListsFirst}
use Rattle.keep_office.specs.declared.kept.KeepFault.{KeepFault}
use Rattle.keep_office.specs.declared.kept.KeepFault.TheVariants as keeping
use Rattle.keep_office.specs.Calls.{WhenRefused}
use Rattle.keep_office.specs.Office.{Office}
use Rattle.day_import.specs.declared.fault.DayFault.{DayFault}
use Rattle.day_import.specs.declared.fault.DayFault.TheVariants.{ReadFault, WriteFault, KeeperFault, NoMemory}
use Rattle.day_import.specs.RoundRuns.{HasAnswered}
use Rattle.day_import.specs.WorkedDays.{HaveAllStarted, HaveFirstStarted}
use Rattle.day_import.specs.Published.{AreStepsBy, published_of}
use Rattle.day_import.specs.declared.outcomes.Outcome.{Outcome}
use Rattle.day_import.specs.declared.outcomes.Outcome.TheVariants as outcome
use Rattle.day_import.specs.Imports.{DayAnswer, Merges}

-- the outcome of a day whose work was stopped
abbrev pub stopped_outcome : DayFault → Outcome
stopped_outcome ReadFault = outcome.ReadFault
stopped_outcome WriteFault = outcome.WriteFault
stopped_outcome KeeperFault = outcome.KeeperFault
stopped_outcome NoMemory = outcome.NoMemory

-- the outcome of a day whose keeper refused
abbrev pub refused_outcome : KeepFault → Outcome
refused_outcome keeping.Failed = outcome.KeeperFault
refused_outcome keeping.NoMemory = outcome.NoMemory

-- what holds where a day was worked to its end or to its first refused line
abbrev pub WhereWorked : Outcome → Type 0 → Type 0
WhereWorked (outcome.Stored kept) P = P
WhereWorked (outcome.Answered kept) P = P
WhereWorked (outcome.Refused line cause) P = P
WhereWorked _ P = Unit {0}

-- what was done over any crew: the work of the day is that by the findings that the crew answered, where it was worked
pub record DoesByCrew (w : WhenRefused) (answer : List (ℕ × RoadFinding) → DayAnswer) (was : Office)
    (answered now_answered : Option (List Finding)) (old new : Option (List ℕ)) (now : Option Office)
    (outcome : Outcome) : Type 0 where
  pub found : List (ℕ × RoadFinding)
  pub answers_are : WhereWorked outcome (HasAnswered answered found now_answered)
  pub merges : Merges w (answer found) was old new now outcome

-- the jobs of a day: the crew tells the first of each worker's, and where the day was worked all
pub record HasStartedJobs (width backlog : ℕ) (day : List Tuple) (told now_told : Option CrewTold)
    (outcome : Outcome) : Type
    0 where
  pub since : List Job
  pub started : HaveFirstStarted width backlog day since
  pub listed : WhereTold (ListsFirst since) told now_told
  pub all : WhereWorked outcome (HaveAllStarted width backlog day since × WhereTold (ListsAll since) told now_told)

-- since an earlier time steps of a day by the rules are published, up to some mark, and to its end where it was worked
pub record HasDaySteps (tariffs : Tariffs) (day : List Tuple) (backlog : ℕ) (old now : Option Posted)
    (outcome : Outcome) : Type 0 where
  pub steps : List Operation
  pub mark : ℕ
  pub within : mark ≤ length day
  pub are : AreStepsBy (rules day tariffs) day backlog 0 mark steps
  pub published : published_of now ≡ option_map (λ p. p.published ++ steps) old
  pub whole : WhereWorked outcome (mark ≡ length day)

-- what was queued is published, and then that the day begins, and its steps by the rules up to some mark; where it was
-- worked, up to its end
pub record HasPublished (tariffs : Tariffs) (day : List Tuple) (number backlog : ℕ) (was : Posted) (now : Option Posted)
    (outcome : Outcome) : Type 0 where
  pub steps : List Operation
  pub mark : ℕ
  pub within : mark ≤ length day
  pub are : AreStepsBy (rules day tariffs) day backlog 0 mark steps
  pub published : published_of now ≡ Some (was.published ++ (was.queued ++ Begin number ∷ steps))
  pub whole : WhereWorked outcome (mark ≡ length day)

-- what an import publishes of a day: it and its steps; or, where it was not worked, nothing
abbrev pub PublishesDay : Tariffs → List Tuple → ℕ → ℕ → Posted → Option Posted → Outcome → Type 0
PublishesDay tariffs day number backlog was now outcome =
    HasPublished tariffs day number backlog was now outcome
    ⊎ ((published_of now ≡ Some was.published) × WhereWorked outcome ⊥)

-- the same under some tariffs, as of an import whose keeper does not tell them
abbrev pub PublishesUnderSome : List Tuple → ℕ → ℕ → Posted → Option Posted → Outcome → Type 0
PublishesUnderSome day number backlog was now outcome =
    (tariffs : Tariffs) × PublishesDay tariffs day number backlog was now outcome
