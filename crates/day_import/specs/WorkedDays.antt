-- The jobs that an import starts, as parts of each worker's events, and findings that make the rules' notices.

use Rattle.std.specs.Prelude.{◌≡◌, ℕ, ◌<◌, List, map}
use Rattle.std.specs.List.{AllByRecursion}
use Rattle.road_time.specs.declared.road.Tuple.{Tuple}
use Rattle.road_time.specs.Rates.{Tariffs}
use Rattle.road_time.specs.Sights.{moments}
use Rattle.road_time.specs.Tolls.{StretchTold}
use Rattle.road_time.specs.Day.{given, merged, notices, charges, charges_by}
use Rattle.ways_expressway.specs.declared.job.Job.{Job}
use Rattle.ways_expressway.specs.Events.{events_for}
use Rattle.ways_expressway.specs.Results.{AreFirst}
use Rattle.day_floor.specs.Starts.{started_for, AreNumbered, IsStart}
use Rattle.day_import.specs.RoundRuns.{start_of}

-- the jobs that were started, joined, are the first of each worker's events; they are numbered from 0, none is empty,
-- and the positions in one differ by less than the backlog
pub record HaveFirstStarted (width backlog : ℕ) (day : List Tuple) (jobs : List Job) : Type 0 where
  pub numbered : AreNumbered 0 (map start_of jobs)
  pub each : AllByRecursion (IsStart backlog) (map start_of jobs)
  pub first : (worker : ℕ) → worker < width →
      AreFirst (started_for worker (map start_of jobs)) (events_for day worker width)

-- and where all were, they are all of each worker's events
pub record HaveAllStarted (width backlog : ℕ) (day : List Tuple) (jobs : List Job) : Type 0 where
  pub numbered : AreNumbered 0 (map start_of jobs)
  pub each : AllByRecursion (IsStart backlog) (map start_of jobs)
  pub whole : (worker : ℕ) → worker < width → started_for worker (map start_of jobs) ≡ events_for day worker width

-- findings make the notices and the charges of the rules
pub record AreRightFor (found : List (ℕ × StretchTold)) (day : List Tuple) (tariffs : Tariffs)
    (number : ℕ) : Type 0 where
  pub notices_are : (kept : ℕ → ℕ → ℕ → ℕ) → merged day found number kept ≡ notices day tariffs number kept
  pub charges_are : charges_by (given found) (moments day) ≡ charges day tariffs (moments day)
