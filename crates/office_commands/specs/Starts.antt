-- The jobs that a command starts, by the plan that its words name.
use Rattle.std.specs.Prelude.{ℕ, ◌≡◌, ◌⊎◌, min, List, Option, Some, None}
use Rattle.road_time.specs.declared.day.Limits.{Limits}
use Rattle.road_time.specs.declared.day.TheConstants.Limits.{DAY}
use Rattle.road_time.specs.declared.road.Tuple.{Tuple}
use Rattle.road_time.specs.Reads.{reads}
use Rattle.ways_crews.specs.Told.{CrewTold, WhereTold}
use Rattle.keep_office.specs.Office.{Office, record_of}
use Rattle.day_import.specs.Planned.{StartsPlanned}
use Rattle.day_import.specs.Runs.{HasStartedJobs}
use Rattle.day_import.specs.declared.outcomes.Outcome.{Outcome}
use Rattle.day_import.specs.declared.outcomes.Outcome.TheVariants.{Stored, Answered, Refused}
use Rattle.ways_audit.specs.Jobs.{StartsAll, StartsFirst}
use Rattle.tuples_traffic.specs.Traffic.{generated}
use Rattle.office_words.specs.declared.command.Command.{Command}
use Rattle.office_words.specs.declared.command.Command.TheVariants as command
use Rattle.office_words.specs.declared.command.DayRun.{DayRun}
use Rattle.office_words.specs.declared.command.Recomputing.{Recomputing}
use Rattle.office_words.specs.declared.command.Recomputing.TheVariants.{Plainly, InBulk}
use Rattle.office_commands.specs.Commands.{compared_tuples}
use Rattle.office_commands.specs.Traffic.{plan_from_seed}

-- how many tuples may wait in the run of a day: as many as its words name, and no more than the limits allow
abbrev pub backlog_of : DayRun → Limits → ℕ
backlog_of run limits = min limits.backlog run.backlog

-- a day was worked to its end or to its first refused line
abbrev pub WasWorked : Outcome → Type 0
WasWorked (Stored kept) = Unit {0}
WasWorked (Answered kept) = Unit {0}
WasWorked (Refused line cause) = Unit {0}
WasWorked _ = ⊥

-- the jobs of a day by the plan of its run: the crew tells the first of each worker's, and where the day was worked all
-- of them, in the order in which the plan starts them
pub record StartsDay (run : DayRun) (backlog : ℕ) (day : List Tuple) (worked : Type 0)
    (told now : Option CrewTold) : Type 0 where
  pub outcome : Outcome
  pub jobs : HasStartedJobs run.plan.width backlog day told now outcome
  pub planned : StartsPlanned run.plan backlog day told now outcome
  pub whole : worked → WasWorked outcome

-- the status says that a day was answered, or names its refused line
abbrev pub SaysWorked : ℕ → Type 0
SaysWorked status = (status ≡ 0) ⊎ (status ≡ 2)

-- the status says that a day was stored that is not kept, or names its refused line
abbrev pub SaysImported : ℕ → Option Office → ℕ → Type 0
SaysImported number kept status =
    ((status ≡ 0) × ((o : Office) × (kept ≡ Some o) × (record_of o number ≡ None))) ⊎ (status ≡ 2)

-- the status says that notices agree, or that they differ
abbrev pub SaysCompared : ℕ → Type 0
SaysCompared status = (status ≡ 0) ⊎ (status ≡ 7)

-- the jobs of a day that is recomputed in bulk: one for each of so many workers that has events; the crew tells the
-- first of them, and all where notices were compared
abbrev pub StartsBulk : Recomputing → List Tuple → Type 0 → Option CrewTold → Option CrewTold → Type 0
StartsBulk Plainly day compared told now = Unit {0}
StartsBulk (InBulk shards width) day compared told now =
    WhereTold (StartsFirst day width) told now × (compared → WhereTold (StartsAll day width) told now)

-- by how many shards of the vehicles a day is recomputed: by none in the plain way
abbrev pub shards_of : Recomputing → ℕ
shards_of Plainly = 0
shards_of (InBulk shards width) = shards

-- by how many shards of its vehicles the day of a command was seen: where notices were compared, by as many as the
-- words name
abbrev pub SeesAsked : Option Command → ℕ → ℕ → Type 0
SeesAsked (Some (command.Compare asked)) status shards = SaysCompared status → shards ≡ shards_of asked.how
SeesAsked _ status shards = Unit {0}

-- the jobs that words start, by the command that they ask for: over as many workers as they name
abbrev pub StartsAsked : Limits → Option Command → List ℕ → Option Office → ℕ → Option CrewTold → Option CrewTold →
    Type 0
StartsAsked limits (Some (command.Answers run)) bytes kept status told now =
    StartsDay run (backlog_of run limits) (reads bytes limits run.late).tuples (SaysWorked status) told now
StartsAsked limits (Some (command.Import run)) bytes kept status told now =
    StartsDay run (backlog_of run limits) (reads bytes limits run.late).tuples (SaysImported run.day kept status)
    told now
StartsAsked limits (Some (command.Compare asked)) bytes kept status told now =
    StartsBulk asked.how (compared_tuples limits asked bytes) (SaysCompared status) told now
StartsAsked limits (Some (command.Rehearse seed size run)) bytes kept status told now =
    StartsDay run (backlog_of run DAY) (generated (plan_from_seed seed size)) (status ≡ 0) told now
StartsAsked limits _ bytes kept status told now = Unit {0}
