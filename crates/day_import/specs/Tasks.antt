-- The jobs that are out: at most one of each worker.

use Rattle.std.specs.Prelude.{◌≡◌, ◌≢◌, ℕ, zero, suc, ◌+◌, ◌<◌, Bool, true, false, List, [], ◌∷◌, length}
use Rattle.std.specs.List.{AllByRecursion}
use Rattle.ways_expressway.specs.declared.job.Job.{Job}
use Rattle.road_time.specs.Rates.{Tariffs}
use Rattle.day_floor.specs.Shares.{Share, State, is_empty}
use Rattle.day_floor.specs.Jobs.{IsOut}

-- a job is its worker's that is out
pub record IsOpen (tariffs : Tariffs) (width : ℕ) (s : State) (job : Job) : Type 0 where
  pub within : job.worker < width
  pub some : is_empty (s.share job.worker).out ≡ false
  pub out : IsOut tariffs s job.worker job

-- no worker has two jobs
abbrev pub AreOfEach : List Job → Type 0
AreOfEach [] = Unit {0}
AreOfEach (j ∷ js) = AllByRecursion (λ k. k.worker ≢ j.worker) js × AreOfEach js

-- one where events are out, else none
abbrev pub one_if : Bool → ℕ
one_if true = 0
one_if false = 1

-- one where a worker's events are out as a job, else none
abbrev pub one_out : Share → ℕ
one_out share = one_if (is_empty share.out)

-- how many of the first so many workers have a job out
abbrev pub out_at : (ℕ → Share) → ℕ → ℕ
out_at share zero = 0
out_at share (suc worker) = one_out (share worker) + out_at share worker

-- these are all jobs that are out
pub record AreOpen (tariffs : Tariffs) (width : ℕ) (s : State) (jobs : List Job) : Type 0 where
  pub each : AllByRecursion (IsOpen tariffs width s) jobs
  pub apart : AreOfEach jobs
  pub count : length jobs ≡ out_at s.share width
