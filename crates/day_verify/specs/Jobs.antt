-- The jobs that a day starts where it is verified.
use Rattle.std.specs.Prelude.{ℕ, List, Option}
use Rattle.road_time.specs.declared.road.Tuple.{Tuple}
use Rattle.day_plan.specs.declared.work.Plan.{Plan}
use Rattle.ways_expressway.specs.declared.finding.Finding.{Finding}
use Rattle.ways_expressway.specs.declared.job.Job.{Job}
use Rattle.ways_crews.specs.Told.{CrewTold, WhereTold}
use Rattle.ways_crews.specs.Callers.{ListsAll, ListsFirst}
use Rattle.day_import.specs.PlannedRounds.{HasPlannedJobs}
use Rattle.day_import.specs.WorkedDays.{HaveAllStarted, HaveFirstStarted}
use Rattle.day_verify.specs.declared.verdict.Verdict.{Verdict}
use Rattle.day_verify.specs.Verdicts.{WhereRead}

-- the jobs of a day: the crew tells the first of each worker's, and where the day was worked all, which are those of
-- its plan
pub record StartsJobs (plan : Plan) (backlog : ℕ) (day : List Tuple) (told now : Option CrewTold)
    (answers answered : Option (List Finding)) (said : Verdict) : Type 0 where
  pub since : List Job
  pub started : HaveFirstStarted plan.width backlog day since
  pub listed : WhereTold (ListsFirst since) told now
  pub all : WhereRead said (HaveAllStarted plan.width backlog day since × WhereTold (ListsAll since) told now)
  pub planned : WhereRead said (HasPlannedJobs plan.turns plan.width backlog day told now answers answered)
