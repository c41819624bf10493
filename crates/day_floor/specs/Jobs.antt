-- The job that a worker may be given, the one that is out, and what may come back of it.
use Rattle.std.specs.Prelude.{◌≡◌, ℕ, true, ◌++◌, map, IsOk}
use Rattle.road_time.specs.Rates.{Tariffs}
use Rattle.ways_expressway.specs.declared.job.Job.{Job}
use Rattle.ways_expressway.specs.declared.job.Done.{Done}
use Rattle.ways_expressway.specs.Findings.{shown, findings}
use Rattle.ways_expressway.specs.Stands.{StandsFor}
use Rattle.day_floor.specs.Shares.{State, can_give}
use Rattle.day_floor.specs.Sound.{CanBack}

-- the job that a worker may be given: all events that wait, with its carriage
pub record IsNext (tariffs : Tariffs) (s : State) (worker : ℕ) (job : Job) : Type 0 where
  pub may : can_give (s.share worker) ≡ true
  pub worker_is : job.worker ≡ worker
  pub number : job.number ≡ s.given
  pub tariffs_are : job.carriage.tariffs ≡ tariffs
  pub stands : StandsFor job.carriage (s.share worker).back
  pub events : job.events ≡ (s.share worker).waiting

-- the job of a worker that is out
pub record IsOut (tariffs : Tariffs) (s : State) (worker : ℕ) (job : Job) : Type 0 where
  pub worker_is : job.worker ≡ worker
  pub number : job.number ≡ (s.share worker).number
  pub tariffs_are : job.carriage.tariffs ≡ tariffs
  pub stands : StandsFor job.carriage (s.share worker).back
  pub events : job.events ≡ (s.share worker).out

-- what was done of the job that is out may come back: all of its events were run, and the carriage stands for them
-- after those before
pub record MayComeBack (tariffs : Tariffs) (width : ℕ) (s : State) (done : Done) : Type 0 where
  pub whole : IsOk done.result
  pub can : CanBack width s done.worker done.number (map shown done.findings)
  pub tariffs_are : done.carriage.tariffs ≡ tariffs
  pub stands : StandsFor done.carriage ((s.share done.worker).back ++ (s.share done.worker).out)

-- the findings of what was done are those of the job's events
abbrev pub HasTrueFindings : Tariffs → State → Done → Type 0
HasTrueFindings tariffs s done =
    map shown done.findings ≡ findings (s.share done.worker).back (s.share done.worker).out tariffs
