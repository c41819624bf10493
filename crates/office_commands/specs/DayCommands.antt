-- What `answers`, `import` and `past` promise of each object that they are given, before the closing line.
use Rattle.std.specs.Prelude.{ℕ, ◌≡◌, List, [], Option, Some, Result, Ok, IsErr}
use Rattle.road_io.specs.Blame.{FaultsByPlan, FaultsByRoom}
use Rattle.road_io.specs.Within.{ReadsWithin}
use Rattle.road_io.specs.declared.sink.Sink.{Ghosts as SinkGhosts}
use Rattle.road_io.specs.declared.source.Failed.{Failed}
use Rattle.road_io.specs.declared.source.Source.{Ghosts as SourceGhosts}
use Rattle.road_time.specs.declared.day.Limits.{Limits}
use Rattle.road_time.specs.Reads.{reads}
use Rattle.keep_office.specs.Office.{Office, record_of}
use Rattle.keep_office.specs.declared.calls.Keeper.{Ghosts as KeeperGhosts}
use Rattle.ways_crews.specs.declared.crew.Crew.{Ghosts as CrewGhosts}
use Rattle.day_import.specs.Faults.{FaultsBeside}
use Rattle.day_import.specs.Imports.{most_imported}
use Rattle.day_past.specs.Imports.{NeedsNone, PutsPast, most_kept, most_past}
use Rattle.day_reading.specs.Days.{most_of_day}
use Rattle.office_words.specs.declared.command.DayRun.{DayRun}
use Rattle.office_commands.specs.declared.closing.Closing.{Closing}
use Rattle.office_commands.specs.declared.closing.Closing.TheVariants.{ReadFault, KeeperFault}
use Rattle.office_commands.specs.Closings.{status_of}
use Rattle.office_commands.specs.Commands.{Answer, history_command}
use Rattle.office_commands.specs.Endings.{Wrote, Keeps, KeepsBy, Did, HoldsSame, sort_of, code_of}
use Rattle.office_commands.specs.Faults.{TellsNoOther}
use Rattle.office_commands.specs.Rests.{HasReadDay, HasReadPast, StopsThere, ReadsUncompared, LeavesOfDay}
use Rattle.office_commands.specs.Starts.{StartsDay}
use Rattle.office_commands.specs.Uses.{IsPassed}

-- the source of a day that is answered: it was read to where the status says
pub record ReadsAnswered {S : Type 0} (g : SourceGhosts S) (run : DayRun) (limits : Limits)
    (done : Result (Option Closing) Failed) (old new : S) : Type 0 where
  pub reads : HasReadDay limits run.late (code_of done) (g.left old) (g.left new)
  pub faults : FaultsBeside (g.faults old) (g.faults new) (g.plan old) (done ≡ Ok (Some ReadFault)) (TellsNoOther done)

-- the source of a day that is imported: how far it was read, by what is kept and how the import ended
pub record ReadsImported {S : Type 0} (g : SourceGhosts S) (run : DayRun) (limits : Limits) (kept : Option Office)
    (done : Result (Option Closing) Failed) (old new : S) : Type 0 where
  pub passed : (o : Office) → kept ≡ Some o → IsPassed run.day o → new ≡ old
  pub stops : StopsThere limits run.late (code_of done) (g.left old) (g.left new)
  pub uncompared : ReadsUncompared (most_of_day limits) (code_of done) (g.left old) (g.left new)
  pub rest : (bytes : List ℕ) (o : Office) → g.left old ≡ Some bytes → kept ≡ Some o → code_of done ≡ 0 →
      LeavesOfDay (record_of o run.day) bytes (g.left new)
  pub bounded : (o : Office) → kept ≡ Some o →
      ReadsWithin (most_imported (record_of o run.day) limits) (g.left old) (g.left new)
  pub faults : FaultsBeside (g.faults old) (g.faults new) (g.plan old) (done ≡ Ok (Some ReadFault)) (TellsNoOther done)

-- the sink of a day: what was written is that of the row which the day's bytes and the office have
pub record WroteRow {S O K : Type 0} (s : SourceGhosts S) (g : SinkGhosts O) (k : KeeperGhosts K) (right : Type 0)
    (row : List ℕ → Office → Answer) (done : Result (Option Closing) Failed) (source : S) (keeper kept : K)
    (old new : O) : Type 0 where
  pub wrote : right → (bytes : List ℕ) (o : Office) → s.left source ≡ Some bytes → k.told keeper ≡ Some o →
      Wrote (row bytes o) done (g.written old) (g.written new)
  pub does : right → (bytes : List ℕ) (o : Office) → s.left source ≡ Some bytes → k.told keeper ≡ Some o →
      Did k.refuses (row bytes o) o (g.written old) (g.written new) (k.told kept) done
  pub faults : FaultsByRoom (g.faults old) (g.faults new) (g.room old) (g.room new) (IsErr done)

-- the keeper of a day: it keeps what that row says
pub record KeptRow {S K : Type 0} (s : SourceGhosts S) (g : KeeperGhosts K) (right : Type 0)
    (row : List ℕ → Office → Answer) (done : Result (Option Closing) Failed) (source : S) (old new : K) : Type 0 where
  pub keeps : right → (bytes : List ℕ) (o : Office) → s.left source ≡ Some bytes → g.told old ≡ Some o →
      Keeps g.refuses (row bytes o) o (g.told new) done
  pub faults : FaultsByPlan (g.faults old) (g.faults new) (g.plan old) (done ≡ Ok (Some KeeperFault))

-- the crew of a day: which jobs it was given
pub record WorkedDay {S C T N : Type 0} (s : SourceGhosts S) (g : CrewGhosts C T N) (run : DayRun) (limits : Limits)
    (worked : Type 0) (source : S) (old new : C) : Type 0 where
  pub jobs : (bytes : List ℕ) → s.left source ≡ Some bytes →
      StartsDay run limits.backlog (reads bytes limits run.late).tuples worked (g.jobs old) (g.jobs new)
  pub idle : g.out new ≡ []
  pub same : g.which new ≡ g.which old

-- the source of a history: how far it was read, by what is kept and how the run ended
pub record ReadsPast {S : Type 0} (g : SourceGhosts S) (limits : Limits) (base : ℕ) (kept : Option Office)
    (closing : Closing) (old new : S) : Type 0 where
  pub passed : (o : Office) → kept ≡ Some o → NeedsNone o.past base o → new ≡ old
  pub uncompared : ReadsUncompared (most_past limits) (status_of closing) (g.left old) (g.left new)
  pub rest : (bytes : List ℕ) (o : Office) → g.left old ≡ Some bytes → kept ≡ Some o →
      HasReadPast limits base (status_of closing) o.past bytes (g.left new)
  pub bounded : (o : Office) → kept ≡ Some o → ReadsWithin (most_kept o.past limits) (g.left old) (g.left new)
  pub faults : FaultsByPlan (g.faults old) (g.faults new) (g.plan old) (closing ≡ ReadFault)

-- the keeper of a history: it keeps what the row of that history says
pub record KeptPast {S K : Type 0} (s : SourceGhosts S) (g : KeeperGhosts K) (limits : Limits) (base : ℕ)
    (closing : Closing) (source : S) (old new : K) : Type 0 where
  pub keeps : (bytes : List ℕ) (o : Office) → s.left source ≡ Some bytes → g.told old ≡ Some o →
      KeepsBy (sort_of closing) g.refuses (history_command limits base bytes o) o (g.told new)
  pub puts : (o : Office) → g.told old ≡ Some o → PutsPast base o (g.told new)
  pub held : HoldsSame (status_of closing) (g.told new ≡ g.told old)
  pub faults : FaultsByPlan (g.faults old) (g.faults new) (g.plan old) (closing ≡ KeeperFault)
