-- What a comparison of a day promises of each object that it is given, before the closing line.
use Rattle.std.specs.Prelude.{ℕ, ◌≡◌, ◌≢◌, List, [], false, Option, Some, None}
use Rattle.road_io.specs.Blame.{FaultsByPlan}
use Rattle.road_io.specs.Within.{ReadsWithin}
use Rattle.road_io.specs.declared.source.Source.{Ghosts as SourceGhosts}
use Rattle.road_time.specs.declared.day.Limits.{Limits}
use Rattle.road_time.specs.Rates.{Tariffs}
use Rattle.road_time.specs.declared.road.Tuple.{Tuple}
use Rattle.tuples_text.specs.declared.cause.Cause.{Cause}
use Rattle.keep_office.specs.Office.{Office}
use Rattle.keep_office.specs.declared.calls.Keeper.{Ghosts as KeeperGhosts}
use Rattle.ways_crews.specs.Told.{CrewTold}
use Rattle.ways_crews.specs.declared.crew.Crew.{Ghosts as CrewGhosts}
use Rattle.office_words.specs.declared.command.Comparison.{Comparison}
use Rattle.office_words.specs.declared.command.Recomputing.{Recomputing}
use Rattle.office_commands.specs.declared.closing.Closing.{Closing}
use Rattle.office_commands.specs.declared.closing.Closing.TheVariants.{Words, ReadFault}
use Rattle.office_commands.specs.declared.difference.Difference.{Difference}
use Rattle.office_commands.specs.Closings.{status_of}
use Rattle.office_commands.specs.Commands.{compared_tuples}
use Rattle.office_commands.specs.Days.{in_bulk}
use Rattle.office_commands.specs.Uses.{most_noticed}

-- a comparison does not close as wrong words do, and lists differences only where it closes with them
pub record ListsWhatDiffers (closing : Closing) (shown : List Difference) : Type 0 where
  pub said : closing ≢ Words
  pub none : status_of closing ≢ 7 → shown ≡ []

-- the aside of a day that was read: nothing is read of it where a line was refused
pub record ReadsBehind {A : Type 0} (g : SourceGhosts A) (asked : Comparison) (day : List Tuple)
    (refused : Option (ℕ × Cause)) (right : Type 0) (kept : Option Office) (tariffs : Tariffs) (closing : Closing)
    (old new : A) : Type 0 where
  pub source_first : refused ≢ None → new ≡ old
  pub bounded : right → (o : Office) → kept ≡ Some o → tariffs ≡ o.tariffs →
      ReadsWithin (most_noticed asked day o) (g.left old) (g.left new)
  pub faults : FaultsByPlan (g.faults old) (g.faults new) (g.plan old) (closing ≡ ReadFault)

-- the aside of a comparison: nothing is read of it before the source was read to its end without refusal
pub record ReadsCompared {S A : Type 0} (s : SourceGhosts S) (g : SourceGhosts A) (limits : Limits)
    (asked : Comparison) (right : Type 0) (kept : Option Office) (status : ℕ) (source left : S) (old new : A) : Type 0
  where
    pub refused_first : status ≡ 2 → new ≡ old
    pub source_first : (bytes : List ℕ) → s.left source ≡ Some bytes → s.left left ≢ Some [] → new ≡ old
    pub bounded : right → (bytes : List ℕ) (o : Office) → s.left source ≡ Some bytes → kept ≡ Some o →
        ReadsWithin (most_noticed asked (compared_tuples limits asked bytes) o) (g.left old) (g.left new)

-- the keeper of a comparison: it keeps what it kept, and alone is to blame for its faults
pub record KeepsCompared {K : Type 0} (g : KeeperGhosts K) (failed : Type 0) (old new : K) : Type 0 where
  pub kept : (o : Office) → g.told old ≡ Some o → g.told new ≡ Some o
  pub faults : FaultsByPlan (g.faults old) (g.faults new) (g.plan old) failed

-- the crew of a comparison: which jobs it was given
pub record WorksCompared {C T N : Type 0} (g : CrewGhosts C T N) (how : Recomputing)
    (starts : Option CrewTold → Option CrewTold → Type 0) (old new : C) : Type 0 where
  pub unused : in_bulk how ≡ false → new ≡ old
  pub jobs : starts (g.jobs old) (g.jobs new)
  pub idle : g.out new ≡ []
  pub same : g.which new ≡ g.which old
