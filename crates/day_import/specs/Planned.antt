-- The jobs of a day by its plan.
use Rattle.std.specs.Prelude.{ℕ, List, Option}
use Rattle.road_time.specs.declared.road.Tuple.{Tuple}
use Rattle.ways_expressway.specs.declared.finding.Finding.{Finding}
use Rattle.day_plan.specs.declared.work.Plan.{Plan}
use Rattle.ways_crews.specs.Told.{CrewTold}
use Rattle.day_import.specs.PlannedRounds.{HasPlannedJobs}
use Rattle.day_import.specs.declared.outcomes.Outcome.{Outcome}
use Rattle.day_import.specs.Runs.{WhereWorked}

-- where a day was worked, its jobs are those of the plan, in the order of their starts, and are listed; and what was
-- answered are their findings, in the order in which the plan finishes them
abbrev pub WorksPlanned : Plan → ℕ → List Tuple → Option CrewTold → Option CrewTold → Option (List Finding) →
    Option (List Finding) → Outcome → Type 0
WorksPlanned plan backlog day told now answers answered outcome =
    WhereWorked outcome (HasPlannedJobs plan.turns plan.width backlog day told now answers answered)

-- the same of the starts alone
abbrev pub StartsPlanned : Plan → ℕ → List Tuple → Option CrewTold → Option CrewTold → Outcome → Type 0
StartsPlanned plan backlog day told now outcome =
    (answers answered : Option (List Finding)) × WorksPlanned plan backlog day told now answers answered outcome
