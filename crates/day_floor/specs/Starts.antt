-- The jobs that were started, by their workers and numbers.
use Rattle.std.specs.Prelude.{◌≡◌, ℕ, ◌+◌, ◌<◌, ◌==◌, false, List, [], ◌∷◌, ◌++◌, length}
use Rattle.std.specs.List.{filter, flat_map, AllByRecursion}
use Rattle.ways_expressway.specs.declared.lane_event.LaneEvent.{LaneEvent}
use Rattle.ways_expressway.specs.Events.{position_told}
use Rattle.day_floor.specs.Shares.{State, JobStart, is_empty}

-- the job that a worker is given next
abbrev pub next_start : State → ℕ → JobStart
next_start s worker = record { worker = worker; number = s.given; events = (s.share worker).waiting }

-- the events of the jobs that were started for a worker, joined in order
abbrev pub started_for : ℕ → List JobStart → List LaneEvent
started_for worker starts = flat_map (λ j. j.events) (filter (λ j. j.worker == worker) starts)

-- the jobs are numbered from n on
abbrev pub AreNumbered : ℕ → List JobStart → Type 0
AreNumbered n [] = Unit {0}
AreNumbered n (j ∷ js) = (j.number ≡ n) × AreNumbered (n + 1) js

-- a job has events, and their positions differ by less than so many
pub record IsStart (backlog : ℕ) (j : JobStart) : Type 0 where
  pub some : is_empty j.events ≡ false
  pub near : AllByRecursion (λ e. AllByRecursion (λ f. position_told f < position_told e + backlog) j.events) j.events

-- the jobs that were started: those of a state, numbered from 0, and those of each worker have its events that are
-- back and out
pub record HaveStarted (width backlog : ℕ) (s : State) (starts : List JobStart) : Type 0 where
  pub are : starts ≡ s.starts
  pub count : length starts ≡ s.given
  pub numbered : AreNumbered 0 starts
  pub each : AllByRecursion (IsStart backlog) starts
  pub whole : (worker : ℕ) → worker < width → started_for worker starts ≡ (s.share worker).back ++ (s.share worker).out
