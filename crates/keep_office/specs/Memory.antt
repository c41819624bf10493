-- What the keepers in memory keep, and which of their calls fail.
use Rattle.std.specs.Prelude.{ℕ, Bool}
use Rattle.road_io.specs.Plans.{planned}
use Rattle.keep_office.specs.declared.memory.MemOffice.{MemOffice}
use Rattle.keep_office.specs.declared.memory.Failing.{Failing}
use Rattle.keep_office.specs.declared.memory.MemKeeper.{MemKeeper}
use Rattle.keep_office.specs.declared.memory.LateKeeper.{LateKeeper}
use Rattle.keep_office.specs.Office.{Office}

-- what an office in memory keeps
abbrev pub memory_office : MemOffice → Office
memory_office m = record { days = m.days.items; rows = m.rows.items; past = m.past; tariffs = m.tariffs }

-- which of the calls to come fail
abbrev pub planned_in : Failing → ℕ → Bool
planned_in f = planned f.fails.items f.calls

-- the failed calls that were counted
abbrev pub faults_in : Failing → ℕ
faults_in f = f.faults

-- what a keeper in memory keeps
abbrev pub kept_by : MemKeeper → Office
kept_by k = memory_office k.office

-- which of its calls to come fail
abbrev pub plan_of : MemKeeper → ℕ → Bool
plan_of k = planned_in k.failing

-- the failed calls that it counted
abbrev pub faults_of : MemKeeper → ℕ
faults_of k = faults_in k.failing

-- what a keeper that fails late keeps
abbrev pub kept_late : LateKeeper → Office
kept_late k = memory_office k.office

-- which of its calls to come fail
abbrev pub plan_late : LateKeeper → ℕ → Bool
plan_late k = planned_in k.failing

-- the failed calls that it counted
abbrev pub faults_late : LateKeeper → ℕ
faults_late k = faults_in k.failing
