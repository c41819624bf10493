-- What a run of the office promises of each object that it was given: the same whoever called it.
use Rattle.std.specs.Prelude.{ℕ, ◌≡◌, ◌≢◌, ◌↔◌, Bool, true, false, List, [], Option, Some, None}
use Rattle.std.specs.Prelude.{Result, Ok, IsErr}
use Rattle.road_io.specs.Blame.{FaultsByPlan, FaultsByRoom}
use Rattle.road_io.specs.Plans.{NeverFails}
use Rattle.road_io.specs.Within.{ReadsWithin}
use Rattle.road_io.specs.declared.sink.Sink.{Ghosts as SinkGhosts}
use Rattle.road_io.specs.declared.source.Failed.{Failed}
use Rattle.road_io.specs.declared.source.Source.{Ghosts as SourceGhosts}
use Rattle.road_time.specs.declared.day.Limits.{Limits}
use Rattle.keep_office.specs.Office.{Office}
use Rattle.keep_office.specs.declared.calls.Keeper.{Ghosts as KeeperGhosts}
use Rattle.ways_crews.specs.declared.crew.Crew.{Ghosts as CrewGhosts}
use Rattle.day_import.specs.Faults.{FaultsBeside}
use Rattle.office_words.specs.declared.command.Command.{Command}
use Rattle.office_commands.specs.declared.closing.Closing.{Closing}
use Rattle.office_commands.specs.declared.closing.Closing.TheVariants.{KeeperFault}
use Rattle.office_commands.specs.Commands.{office_answer}
use Rattle.office_commands.specs.Endings.{KeepsTo, Writes, Concludes, HoldsSame, Keeps, Wrote, Did, code_of}
use Rattle.office_commands.specs.Faults.{ReadFaults}
use Rattle.office_commands.specs.Rests.{LeavesAsKept, ReadsAsked}
use Rattle.office_commands.specs.Starts.{StartsAsked}
use Rattle.office_commands.specs.Sums.{TellsSound, WroteSound}
use Rattle.office_commands.specs.Uses.{IsTold, IsRightCrew, IsRightAside, SourceTells, KeeperTells}
use Rattle.office_commands.specs.Uses.{uses_crew, uses_source, uses_aside, uses_keeper, changes_kept, AsksPassed}
use Rattle.office_commands.specs.Uses.{PutsAsked, most_of, most_aside_of}

-- a source: what was read of it, by what the words ask, what is kept and how the run ended
pub record ReadsSource {S : Type 0} (g : SourceGhosts S) (limits : Limits) (meant : Option Command)
    (kept : Option Office) (status : ℕ) (old new : S) : Type 0 where
  pub unused : uses_source meant ≡ false → new ≡ old
  pub passed : (o : Office) → kept ≡ Some o → AsksPassed meant o → new ≡ old
  pub reads : uses_source meant ≡ true → ReadsAsked limits meant status (g.left old) (g.left new)
  pub rest : (bytes : List ℕ) (o : Office) → changes_kept meant ≡ true → SourceTells meant (g.left old) bytes →
      kept ≡ Some o → LeavesAsKept limits meant status o bytes (g.left new)
  pub bounded : (o : Office) → KeeperTells meant kept o →
      ReadsWithin (most_of limits o meant) (g.left old) (g.left new)

-- an aside: nothing is read of it before the source was read to its end without refusal
pub record ReadsAside {S A : Type 0} (s : SourceGhosts S) (g : SourceGhosts A) (limits : Limits)
    (meant : Option Command) (exact : Bool) (kept : Option Office) (status : ℕ) (source left : S) (old new : A) :
    Type 0 where
  pub unused : uses_aside meant ≡ false → new ≡ old
  pub refused_first : status ≡ 2 → new ≡ old
  pub source_first : (bytes : List ℕ) → s.left source ≡ Some bytes → s.left left ≢ Some [] → new ≡ old
  pub bounded : (bytes : List ℕ) (o : Office) → IsRightAside meant exact → SourceTells meant (s.left source) bytes →
      KeeperTells meant kept o → ReadsWithin (most_aside_of limits bytes o meant) (g.left old) (g.left new)

-- a keeper: what it keeps then, and that it alone is to blame for its faults
pub record KeepsAsked {S K : Type 0} (s : SourceGhosts S) (g : KeeperGhosts K) (limits : Limits)
    (meant : Option Command) (exact : Bool) (status : ℕ) (source : S) (old new : K) : Type 0 where
  pub keeps : (bytes lines : List ℕ) (o : Office) → IsRightCrew meant exact → SourceTells meant (s.left source) bytes →
      g.told old ≡ Some o → KeepsTo g.refuses (office_answer limits bytes lines o meant) status o (g.told new)
  pub keeps_unread : (o : Office) → g.told old ≡ Some o → status ≡ 4 → g.told new ≡ Some o
  pub puts : (o : Office) → g.told old ≡ Some o → PutsAsked meant o (g.told new)
  pub unchanged : (o : Office) → g.told old ≡ Some o → changes_kept meant ≡ false → g.told new ≡ Some o
  pub held : (o : Office) → g.told old ≡ Some o → changes_kept meant ≡ true → status ≢ 5 →
      HoldsSame status (g.told new ≡ Some o)
  pub unused : uses_keeper meant ≡ false → new ≡ old
  pub faults : FaultsBeside (g.faults old) (g.faults new) (g.plan old) (status ≡ 6) (status ≢ 5)

-- a crew: which jobs it was given
pub record WorksAsked {S C T N : Type 0} (s : SourceGhosts S) (g : CrewGhosts C T N) (limits : Limits)
    (meant : Option Command) (kept : Option Office) (status : ℕ) (source : S) (old new : C) : Type 0 where
  pub unused : uses_crew meant ≡ false → new ≡ old
  pub jobs : (bytes : List ℕ) → uses_crew meant ≡ true → SourceTells meant (s.left source) bytes →
      StartsAsked limits meant bytes kept status (g.jobs old) (g.jobs new)
  pub idle : g.out new ≡ []
  pub same : g.which new ≡ g.which old

-- a sink: what was written, where all that was read tells what it holds; and that a day which is told adds up
pub record WritesAsked {S A O K : Type 0} (s : SourceGhosts S) (a : SourceGhosts A) (g : SinkGhosts O)
    (k : KeeperGhosts K) (limits : Limits) (meant : Option Command) (exact : Bool) (status : ℕ) (source : S)
    (aside : A) (keeper kept : K) (old new : O) : Type 0 where
  pub written : (bytes lines : List ℕ) (o : Office) →
      IsTold meant exact (s.left source) (a.left aside) (k.told keeper) bytes lines o →
      Writes (office_answer limits bytes lines o meant) status (g.written old) (g.written new)
  pub concludes : (bytes lines : List ℕ) (o : Office) →
      IsTold meant exact (s.left source) (a.left aside) (k.told keeper) bytes lines o → k.told keeper ≡ Some o →
      Concludes k.refuses (office_answer limits bytes lines o meant) o status (g.written old) (g.written new)
      (k.told kept)
  pub sums : TellsSound meant status (g.written old) (g.written new)
  pub faults : FaultsByRoom (g.faults old) (g.faults new) (g.room old) (g.room new) (status ≡ 5)

-- a keeper before the closing line: what it keeps then, by how the command ended
pub record KeptAsked {S K : Type 0} (s : SourceGhosts S) (g : KeeperGhosts K) (limits : Limits)
    (meant : Option Command) (exact : Bool) (done : Result (Option Closing) Failed) (source : S) (old new : K) :
    Type 0 where
  pub keeps : (bytes lines : List ℕ) (o : Office) → IsRightCrew meant exact → SourceTells meant (s.left source) bytes →
      g.told old ≡ Some o → Keeps g.refuses (office_answer limits bytes lines o meant) o (g.told new) done
  pub puts : (o : Office) → g.told old ≡ Some o → PutsAsked meant o (g.told new)
  pub unchanged : (o : Office) → g.told old ≡ Some o → changes_kept meant ≡ false → g.told new ≡ Some o
  pub held : (o : Office) → g.told old ≡ Some o → changes_kept meant ≡ true →
      HoldsSame (code_of done) (g.told new ≡ Some o)
  pub unused : uses_keeper meant ≡ false → new ≡ old
  pub faults : FaultsByPlan (g.faults old) (g.faults new) (g.plan old) (done ≡ Ok (Some KeeperFault))

-- a sink before the closing line: what was written
pub record WroteAsked {S A O K : Type 0} (s : SourceGhosts S) (a : SourceGhosts A) (g : SinkGhosts O)
    (k : KeeperGhosts K) (limits : Limits) (meant : Option Command) (exact : Bool)
    (done : Result (Option Closing) Failed) (source : S) (aside : A) (keeper kept : K) (old new : O) : Type 0 where
  pub wrote : (bytes lines : List ℕ) (o : Office) →
      IsTold meant exact (s.left source) (a.left aside) (k.told keeper) bytes lines o →
      Wrote (office_answer limits bytes lines o meant) done (g.written old) (g.written new)
  pub does : (bytes lines : List ℕ) (o : Office) →
      IsTold meant exact (s.left source) (a.left aside) (k.told keeper) bytes lines o → k.told keeper ≡ Some o →
      Did k.refuses (office_answer limits bytes lines o meant) o (g.written old) (g.written new) (k.told kept) done
  pub sums : WroteSound meant done (g.written old) (g.written new)
  pub faults : FaultsByRoom (g.faults old) (g.faults new) (g.room old) (g.room new) (IsErr done)

-- what a run was given, or what it left of that
pub record Objects (S A O K C : Type 0) : Type 0 where
  pub source : S
  pub aside : A
  pub sink : O
  pub keeper : K
  pub crew : C

-- a run: of each object what it promises
pub record Ran {S A O K C T N : Type 0} (s : SourceGhosts S) (a : SourceGhosts A) (o : SinkGhosts O)
    (k : KeeperGhosts K) (c : CrewGhosts C T N) (limits : Limits) (meant : Option Command) (status : ℕ)
    (old new : Objects S A O K C) : Type 0 where
  pub words : status ≢ 5 → status ≢ 8 → (status ≡ 1 ↔ (meant ≡ None))
  pub source : ReadsSource s limits meant (k.told old.keeper) status old.source new.source
  pub aside : ReadsAside s a limits meant c.exact (k.told old.keeper) status old.source new.source old.aside new.aside
  pub read : ReadFaults (s.faults old.source) (s.faults new.source) (a.faults old.aside) (a.faults new.aside)
      (uses_source meant ≡ true → NeverFails (s.plan old.source))
      (uses_aside meant ≡ true → NeverFails (a.plan old.aside)) (status ≡ 4) ((status ≢ 5) × (status ≢ 6))
  pub sink : WritesAsked s a o k limits meant c.exact status old.source old.aside old.keeper new.keeper old.sink
      new.sink
  pub keeper : KeepsAsked s k limits meant c.exact status old.source old.keeper new.keeper
  pub crew : WorksAsked s c limits meant (k.told old.keeper) status old.source old.crew new.crew
