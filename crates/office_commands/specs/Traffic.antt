-- Generated traffic, and what is kept of it where it is imported alone.
use Rattle.std.specs.Prelude.{ℕ, ◌≡◌, Option, Some, None, Result, Ok, Err}
use Rattle.road_io.specs.declared.source.Failed.{Failed}
use Rattle.keep_office.specs.declared.kept.DayRecord.{DayRecord}
use Rattle.keep_office.specs.Kept.{kept_record}
use Rattle.keep_office.specs.Office.{nothing_kept}
use Rattle.tuples_traffic.specs.declared.plan.GenPlan.{GenPlan}
use Rattle.tuples_traffic.specs.declared.plan.GenFault.{GenFault}
use Rattle.tuples_traffic.specs.declared.plan.GenFault.TheVariants as traffic
use Rattle.tuples_traffic.specs.Traffic.{generated, file_of}
use Rattle.office_words.specs.declared.command.Size.{Size}
use Rattle.office_commands.specs.declared.closing.Closing.{Closing}
use Rattle.office_commands.specs.declared.closing.Closing.TheVariants.{NoMemory, Rehearsed}

-- what is to be generated from a seed
abbrev pub plan_from_seed : ℕ → Size → GenPlan
plan_from_seed seed size =
    record { seed = seed; vehicles = size.vehicles; minutes = size.minutes; xways = size.xways; crashes = size.crashes }

-- what is kept of generated traffic as a day, where nothing else is kept: the same however late lines may come
abbrev pub rehearsed_record : ℕ → GenPlan → DayRecord
rehearsed_record day plan = kept_record day (file_of plan) (generated plan) nothing_kept

-- the closing line of a rehearsal, of what was kept
abbrev pub rehearsed : DayRecord → Closing
rehearsed r = Rehearsed r.bytes r.digest r.tuples r.notices r.notices_digest r.total

-- how a generation whose sizes are in their ranges ends, as a command
abbrev pub EndsTraffic : Result ℕ GenFault → Result (Option Closing) Failed → Type 0
EndsTraffic (Ok lines) (Ok c) = c ≡ None
EndsTraffic (Ok lines) (Err e) = ⊥
EndsTraffic (Err (traffic.Size field)) r = ⊥
EndsTraffic (Err traffic.WriteFault) (Ok c) = ⊥
EndsTraffic (Err traffic.WriteFault) (Err e) = Unit {0}
EndsTraffic (Err traffic.NoMemory) (Ok c) = c ≡ Some NoMemory
EndsTraffic (Err traffic.NoMemory) (Err e) = ⊥
