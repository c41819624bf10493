-- What holds of an import between two steps: its floor, its tickets, and the jobs that are out under them.

use Rattle.std.specs.Prelude.{◌≡◌, ℕ, zero, suc, ◌+◌, ◌≤◌, Bool, true, false, List, [], ◌∷◌, ◌++◌, length, map, Option}
use Rattle.std.specs.Prelude.{Some, None, if◌then◌else◌, slice_get}
use Rattle.road_time.specs.Tolls.{StretchTold as RoadFinding}
use Rattle.road_time.specs.declared.road.Tuple.{Tuple}
use Rattle.ways_expressway.specs.declared.job.Job.{Job}
use Rattle.ways_expressway.specs.declared.finding.Finding.{Finding}
use Rattle.ways_expressway.specs.Findings.{shown}
use Rattle.ways_crews.specs.declared.crew.Crew.{Ghosts}
use Rattle.ways_crews.specs.Told.{CrewTold}
use Rattle.ways_crews.specs.Callers.{HasOut, IsListingWhereTold}
use Rattle.day_floor.specs.Shares.{JobStart, State, can_give, mark}
use Rattle.day_floor.specs.Steps.{after_feed, after_give, after_back, after_settle}
use Rattle.day_floor.specs.Written.{settled_text, settled_charges}
use Rattle.ways_expressway.specs.Results.{AreFirst}
use Rattle.road_time.specs.declared.day.Limits.{Limits}
use Rattle.road_time.specs.Fits.{Fit}
use Rattle.day_floor.specs.Sound.{CanBack, SoundState, IsTrue, told_positions}
use Rattle.day_floor.specs.Starts.{HaveStarted}
use Rattle.day_floor.specs.Floors.{Setting, StandsFor}
use Rattle.day_import.specs.Tasks.{AreOpen}
use Rattle.day_import.specs.Published.{settled_between}
use Rattle.day_import.specs.declared.begun.Import.{Import}

-- a job, as the list of those that were started has it
abbrev pub start_of : Job → JobStart
start_of job = record { worker = job.worker; number = job.number; events = job.events }

-- the findings that a crew answered since, where it tells them, are those that were found
abbrev pub HasAnswered : Option (List Finding) → List (ℕ × RoadFinding) → Option (List Finding) → Type 0
HasAnswered None found None = Unit {0}
HasAnswered None found (Some now) = ⊥
HasAnswered (Some was) found None = ⊥
HasAnswered (Some was) found (Some now) = (since : List Finding) × (now ≡ was ++ since) × (map shown since ≡ found)

-- an import on a crew, between two steps: its floor stands for a state; its tickets are those of the jobs that are
-- out, in the order of their starts; with an exact crew the findings are true;
-- and of the jobs started since it began, and the findings answered, the crew tells what was told to it and by it
pub record Runs {S T : Type 0} (out : S → List ℕ) (number : T → ℕ) (holds : S → ℕ → Job → Type 0)
    (gave : S → T → Type 0) (exact : Bool) (jobs : S → Option CrewTold) (answers : S → Option (List Finding))
    (e : Setting) (told : Option CrewTold) (answered : Option (List Finding)) (run : Import T) (crew : S)
    (s : State) : Type 0 where
  pub stands : StandsFor e run.floor s
  pub tasks : List (T × Job)
  pub tickets : map (λ t. t.0) tasks ≡ run.tickets.items
  pub held : HasOut out number holds gave crew tasks
  pub open' : AreOpen e.tariffs run.floor.inboxes.width s (map (λ t. t.1) tasks)
  pub outs_are : map (λ t. t.1.worker) tasks ≡ s.outs
  pub right : exact ≡ true → IsTrue e.tariffs run.floor.inboxes.width s
  pub since : List Job
  pub starts : HaveStarted run.floor.inboxes.width run.floor.limits.backlog s (map start_of since)
  pub listing : IsListingWhereTold told since (out crew) false (jobs crew)
  pub answers_are : HasAnswered answered s.found (answers crew)

-- and after a refusal, in the import of a day: the jobs that are left to be finished, and those that were started,
-- which are the first of each worker's
pub record Stopped {S T : Type 0} (out : S → List ℕ) (number : T → ℕ) (holds : S → ℕ → Job → Type 0)
    (gave : S → T → Type 0) (jobs : S → Option CrewTold)
    (told : Option CrewTold) (width : ℕ) (limits : Limits) (day : List Tuple) (run : Import T) (crew : S) : Type 0 where
  pub state : State
  pub sound : SoundState width limits state
  pub first : AreFirst state.fed day
  pub tasks : List (T × Job)
  pub tickets : map (λ t. t.0) tasks ≡ run.tickets.items
  pub held : HasOut out number holds gave crew tasks
  pub since : List Job
  pub starts : HaveStarted width limits.backlog state (map start_of since)
  pub listing : IsListingWhereTold told since (out crew) true (jobs crew)

-- the same two of a crew by all that it tells
abbrev pub RunsBy : {S T N : Type 0} → Ghosts S T N → Setting → Option CrewTold → Option (List Finding) → Import T → S →
    State → Type 0
RunsBy c = Runs c.out c.number c.holds c.gave c.exact c.jobs c.answers

abbrev pub StoppedBy : {S T N : Type 0} → Ghosts S T N → Option CrewTold → ℕ → Limits → List Tuple → Import T → S →
    Type 0
StoppedBy c = Stopped c.out c.number c.holds c.gave c.jobs

-- a worker is given its next job, if there is one
abbrev pub given_if : State → ℕ → State
given_if s worker = if can_give (s.share worker) then after_give s worker else s

-- one job came back, from its place among those that were out
pub record CameBack (width place : ℕ) (s now : State) : Type 0 where
  pub worker : ℕ
  pub job : ℕ
  pub found : List (ℕ × RoadFinding)
  pub placed : slice_get s.outs place ≡ Some worker
  pub can : CanBack width s worker job found
  pub is : now ≡ after_back s worker found

-- the first so many workers are given their next jobs, one after another
abbrev pub given_all : State → ℕ → State
given_all s zero = s
given_all s (suc worker) = given_if (given_all s worker) worker

-- some tuples are fed, one after another
abbrev pub after_feeds : ℕ → State → List Tuple → State
after_feeds width s [] = s
after_feeds width s (x ∷ xs) = after_feeds width (after_feed width s x) xs

-- some jobs came back, the last one first, each with its worker and its findings
abbrev pub after_backs : State → List (ℕ × List (ℕ × RoadFinding)) → State
after_backs s [] = s
after_backs s (b ∷ bs) = after_back (after_backs s bs) b.0 b.1

-- a job came back from its place among those that were out, with one finding for each of its reports that is told
pub record ComesBack (place : ℕ) (s : State) (b : ℕ × List (ℕ × RoadFinding)) : Type 0 where
  pub placed : slice_get s.outs place ≡ Some b.0
  pub found : map (λ f. f.0) b.1 ≡ told_positions (s.share b.0).out

-- jobs came back, the last one first: each was the first of those that were out
abbrev pub ComeInOrder : State → List (ℕ × List (ℕ × RoadFinding)) → Type 0
ComeInOrder s [] = Unit {0}
ComeInOrder s (b ∷ bs) = ComesBack 0 (after_backs s bs) b × ComeInOrder s bs

-- all jobs that were out came back, in the order of their starts
pub record AllComeInOrder (s : State) (backs : List (ℕ × List (ℕ × RoadFinding))) : Type 0 where
  pub order : ComeInOrder s backs
  pub none : (after_backs s backs).outs ≡ []

-- what can be is settled
abbrev pub settled_all : ℕ → State → State
settled_all width s = after_settle s (mark width s)

-- nothing was fed, given or settled from one state to a later one: some jobs came back
pub record OnlyTakesBack (s now : State) : Type 0 where
  pub fed : now.fed ≡ s.fed
  pub settled : now.settled ≡ s.settled
  pub waiting : (worker : ℕ) → (now.share worker).waiting ≡ (s.share worker).waiting
  pub text : (day : ℕ) (kept : ℕ → ℕ → ℕ → ℕ) → settled_text day kept now ≡ settled_text day kept s
  pub charges : settled_charges now ≡ settled_charges s
  pub between : (a b : ℕ) → settled_between now a b ≡ settled_between s a b

-- some jobs came back, in the order of their starts
pub record HaveComeInOrder (s now : State) : Type 0 where
  pub backs : List (ℕ × List (ℕ × RoadFinding))
  pub is : now ≡ after_backs s backs
  pub order : ComeInOrder s backs

-- some tuples may be fed, one after another
pub record CanFeedAll (limits : Limits) (s : State) (xs : List Tuple) : Type 0 where
  pub fit : Fit (s.fed ++ xs) limits
  pub room : length s.fed + length xs ≤ s.settled + limits.backlog

-- some tuples were fed, each worker was given its next job, and all that was fed is done: the jobs came back in the
-- order of their starts; what was settled stays
pub record IsDone (width : ℕ) (s : State) (xs : List Tuple) (now : State) : Type 0 where
  pub fed : now.fed ≡ s.fed ++ xs
  pub settled : now.settled ≡ s.settled
  pub text : (day : ℕ) (kept : ℕ → ℕ → ℕ → ℕ) → settled_text day kept now ≡ settled_text day kept s
  pub charges : settled_charges now ≡ settled_charges s
  pub between : (a b : ℕ) → settled_between now a b ≡ settled_between s a b
  pub done : mark width now ≡ length now.fed
  pub backs : List (ℕ × List (ℕ × RoadFinding))
  pub is : now ≡ after_backs (given_all (after_feeds width s xs) width) backs
  pub come : AllComeInOrder (given_all (after_feeds width s xs) width) backs
