-- The jobs of a day, one for each worker that has events: which are started, which are out, and what was found by them.
use Rattle.std.specs.Prelude.{◌≡◌, ℕ, zero, suc, Bool, true, false, List, [], ◌∷◌, ◌++◌, length, map, All, Option}
use Rattle.std.specs.List.{AllByRecursion, flat_map}
use Rattle.road_time.specs.declared.road.Tuple.{Tuple}
use Rattle.road_time.specs.Rates.{Tariffs}
use Rattle.ways_expressway.specs.declared.finding.Finding.{Finding}
use Rattle.ways_expressway.specs.declared.job.Job.{Job}
use Rattle.ways_expressway.specs.declared.lane_event.LaneEvent.{LaneEvent}
use Rattle.ways_expressway.specs.Events.{events_for}
use Rattle.ways_expressway.specs.Findings.{shown, findings}
use Rattle.ways_expressway.specs.Ready.{IsReady}
use Rattle.ways_expressway.specs.Results.{IsPossible}
use Rattle.ways_crews.specs.declared.job_list.Started.{Started}
use Rattle.ways_crews.specs.declared.crew.Crew.{Ghosts}
use Rattle.ways_crews.specs.Lists.{listing_of}
use Rattle.ways_crews.specs.Told.{CrewTold, WhereTold}
use Rattle.ways_crews.specs.Callers.{HasOut, IsListingWhereTold}

-- the job of a worker, if it has events
abbrev pub job_if : List LaneEvent → ℕ → ℕ → List Started
job_if [] worker number = []
job_if (e ∷ es) worker number = record { worker = worker; number = number; events = e ∷ es } ∷ []

-- one job for each of the first workers that has events, with all of them, in the order of the workers and numbered
-- from 0
abbrev pub starts_of : List Tuple → ℕ → ℕ → List Started
starts_of day width zero = []
starts_of day width (suc w) =
    starts_of day width w ++ job_if (events_for day w width) w (length (starts_of day width w))

-- a crew was told all jobs of a day
abbrev pub StartsAll : List Tuple → ℕ → CrewTold → CrewTold → Type 0
StartsAll day width was now = now.listed ≡ was.listed ++ starts_of day width width

-- a crew was told the first jobs of a day
abbrev pub StartsFirst : List Tuple → ℕ → CrewTold → CrewTold → Type 0
StartsFirst day width was now = (first : List Started) × (rest : List Started) × (now.listed ≡ was.listed ++ first)
    × (starts_of day width width ≡ first ++ rest)

-- findings come behind those that were answered before
abbrev pub AddsFindings : List Finding → List Finding → List Finding → Type 0
AddsFindings found was now = now ≡ was ++ found

-- a job can be run on its carriage, on which no event was run before
pub record IsFresh (tariffs : Tariffs) (job : Job) : Type 0 where
  pub tariffs_are : job.carriage.tariffs ≡ tariffs
  pub ready : IsReady job.carriage [] job.events

-- a crew on which some jobs are done and the others are out under the tickets, in order
pub record Running {S T : Type 0} (out : S → List ℕ) (number : T → ℕ) (holds : S → ℕ → Job → Type 0)
    (gave : S → T → Type 0) (jobs : S → Option CrewTold) (told : Option CrewTold) (crew : S) (tariffs : Tariffs)
    (tickets : List T) (done todo : List Job) (refused : Bool) : Type 0 where
  pub tasks : List (T × Job)
  pub tickets_are : map (λ t. t.0) tasks ≡ tickets
  pub jobs_are : map (λ t. t.1) tasks ≡ todo
  pub has : HasOut out number holds gave crew tasks
  pub fresh : AllByRecursion (IsFresh tariffs) todo
  pub listing : IsListingWhereTold told (done ++ todo) (out crew) refused (jobs crew)

-- the jobs of the first workers are out, and none was done
pub record HasStarted {S T : Type 0} (out : S → List ℕ) (number : T → ℕ) (holds : S → ℕ → Job → Type 0)
    (gave : S → T → Type 0) (jobs : S → Option CrewTold) (told : Option CrewTold) (crew : S) (tariffs : Tariffs)
    (tickets : List T) (day : List Tuple) (width workers : ℕ) : Type 0 where
  pub todo : List Job
  pub runs : Running out number holds gave jobs told crew tariffs tickets [] todo false
  pub are : map listing_of todo ≡ starts_of day width workers

-- the same two of a crew by all that it tells
abbrev pub RunningBy : {S T N : Type 0} → Ghosts S T N → Option CrewTold → S → Tariffs → List T → List Job → List Job →
    Bool → Type 0
RunningBy c = Running c.out c.number c.holds c.gave c.jobs

abbrev pub HasStartedBy : {S T N : Type 0} → Ghosts S T N → Option CrewTold → S → Tariffs → List T → List Tuple → ℕ →
    ℕ → Type 0
HasStartedBy c = HasStarted c.out c.number c.holds c.gave c.jobs

-- what was found in answers to jobs that are done, as long as none was refused: each could be, an exact crew's are
-- those of the jobs' events, and a crew that tells its answers has told them
pub record HasFound {S : Type 0} (exact : Bool) (answers : S → Option (List Finding)) (answered : Option (List Finding))
    (crew : S) (tariffs : Tariffs) (done : List Job) (found : List Finding) : Type 0 where
  pub possible : All IsPossible found
  pub right : exact ≡ true → map shown found ≡ flat_map (λ j. findings [] j.events tariffs) done
  pub told : WhereTold (AddsFindings found) answered (answers crew)
