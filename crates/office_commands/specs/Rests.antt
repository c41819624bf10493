-- What a run leaves of its source.
use Rattle.std.specs.Prelude.{ℕ, ◌≡◌, ◌≢◌, ◌+◌, ◌⊎◌, List, [], drop, Option, Some, None}
use Rattle.road_time.specs.declared.day.Limits.{Limits}
use Rattle.road_time.specs.Form.{Fault}
use Rattle.road_time.specs.Reads.{reads}
use Rattle.tuples_text.specs.declared.cause.Cause.{Cause}
use Rattle.keep_office.specs.declared.kept.DayRecord.{DayRecord}
use Rattle.keep_office.specs.declared.kept.PastRecord.{PastRecord}
use Rattle.keep_office.specs.Office.{Office, record_of}
use Rattle.keep_office.specs.PastReads.{PastFault, past_reads}
use Rattle.day_reading.specs.Days.{StopsSoon, most_of_day}
use Rattle.road_io.specs.Within.{ReadsWithin}
use Rattle.day_past.specs.Imports.{most_past}
use Rattle.office_words.specs.declared.command.Command.{Command}
use Rattle.office_words.specs.declared.command.Command.TheVariants as command
use Rattle.office_words.specs.declared.command.Recomputing.TheVariants.{Plainly}
use Rattle.office_commands.specs.Days.{recomputed}

-- reading ended at the first refused line: no more than one buffer behind it was taken
abbrev pub HasStoppedReading : Option (ℕ × Fault) → List ℕ → Option (List ℕ) → Type 0
HasStoppedReading refused bytes left =
    (line : ℕ) × (fault : Fault) × (refused ≡ Some (line, fault)) × StopsSoon line bytes left

-- no line was refused, and nothing is left
abbrev pub HasEnded : Option (ℕ × Fault) → Option (List ℕ) → Type 0
HasEnded refused left = (refused ≡ None) × (left ≡ Some [])

-- where the reading of a day ended: at the refused line, if one was refused
abbrev pub EndsAt : Option (ℕ × Cause) → Option (ℕ × Fault) → List ℕ → Option (List ℕ) → Type 0
EndsAt None refused bytes left = HasEnded refused left
EndsAt (Some named) refused bytes left = HasStoppedReading refused bytes left

-- a status names a refused line exactly where one was refused
abbrev pub SaysBy : Option (ℕ × Cause) → ℕ → Type 0
SaysBy None status = status ≢ 2
SaysBy (Some named) status = status ≡ 2

-- what the status says of the reading of these bytes: it came to their end, or ended at the first refused line
pub record HasReadTo (refused : Option (ℕ × Fault)) (status : ℕ) (bytes : List ℕ) (left : Option (List ℕ)) : Type
    0 where
  pub answered : status ≡ 0 → HasEnded refused left
  pub compared : status ≡ 7 → HasEnded refused left
  pub refused_there : status ≡ 2 → HasStoppedReading refused bytes left

-- a day was read within its limits, and to where the status says
pub record HasReadDay (limits : Limits) (late status : ℕ) (before after : Option (List ℕ)) : Type 0 where
  pub within : ReadsWithin (most_of_day limits) before after
  pub to : (bytes : List ℕ) → before ≡ Some bytes → HasReadTo (reads bytes limits late).refused status bytes after

-- of a day that is to be kept a refused line ends the reading
abbrev pub StopsThere : Limits → ℕ → ℕ → Option (List ℕ) → Option (List ℕ) → Type 0
StopsThere limits late status before after =
    (bytes : List ℕ) → before ≡ Some bytes → status ≡ 2 → HasStoppedReading (reads bytes limits late).refused bytes
    after

-- where a line was refused, or the keeper failed, nothing was compared: no more was read than this
abbrev pub ReadsUncompared : ℕ → ℕ → Option (List ℕ) → Option (List ℕ) → Type 0
ReadsUncompared most status before after = (status ≡ 2) ⊎ (status ≡ 6) → ReadsWithin most before after

-- where lines were checked, the source was read to its end
abbrev pub ReadsToEnd : ℕ → Option (List ℕ) → Option (List ℕ) → Type 0
ReadsToEnd status before after =
    (status ≡ 0) ⊎ (status ≡ 2) → (bytes : List ℕ) → before ≡ Some bytes → after ≡ Some []

-- how words had their source read, whatever is kept
abbrev pub ReadsAsked : Limits → Option Command → ℕ → Option (List ℕ) → Option (List ℕ) → Type 0
ReadsAsked limits (Some (command.Answers run)) status before after = HasReadDay limits run.late status before after
ReadsAsked limits (Some (command.Import run)) status before after =
    StopsThere limits run.late status before after × ReadsUncompared (most_of_day limits) status before after
ReadsAsked limits (Some (command.Past base)) status before after =
    ReadsUncompared (most_past limits) status before after
ReadsAsked limits (Some (command.Compare asked)) status before after =
    HasReadDay (recomputed asked.how limits) asked.late status before after
ReadsAsked limits (Some (command.Accidents late)) status before after =
    HasReadDay (recomputed Plainly limits) late status before after
ReadsAsked limits (Some (command.Check day late)) status before after = ReadsToEnd status before after
ReadsAsked limits _ status before after = Unit {0}

-- what an import leaves of its source: nothing, or of that of a day that was kept before all behind one byte more than
-- it had
abbrev pub LeavesOfDay : Option DayRecord → List ℕ → Option (List ℕ) → Type 0
LeavesOfDay None bytes left = left ≡ Some []
LeavesOfDay (Some kept) bytes left = left ≡ Some (drop (kept.bytes + 1) bytes)

-- what a history leaves of its source: nothing, or of that of a kept one all behind one byte more than it had
abbrev pub LeavesOfPast : Option PastRecord → List ℕ → Option (List ℕ) → Type 0
LeavesOfPast None bytes left = left ≡ Some []
LeavesOfPast (Some kept) bytes left = left ≡ Some (drop (kept.bytes + 1) bytes)

-- reading a history ended at its first refused line: no more than one buffer behind it was taken
abbrev pub HasStoppedPast : Option (ℕ × PastFault) → List ℕ → Option (List ℕ) → Type 0
HasStoppedPast refused bytes left =
    (line : ℕ) × (fault : PastFault) × (refused ≡ Some (line, fault)) × StopsSoon line bytes left

-- what the status says of the reading of a history
pub record HasReadPast (limits : Limits) (base status : ℕ) (kept : Option PastRecord) (bytes : List ℕ)
    (left : Option (List ℕ)) : Type 0 where
  pub ended : status ≡ 0 → LeavesOfPast kept bytes left
  pub refused_there : status ≡ 2 → HasStoppedPast (past_reads bytes base limits).refused bytes left

-- an import, or a history, left so much of its source
abbrev pub LeavesAsKept : Limits → Option Command → ℕ → Office → List ℕ → Option (List ℕ) → Type 0
LeavesAsKept limits (Some (command.Import run)) status o bytes left =
    status ≡ 0 → LeavesOfDay (record_of o run.day) bytes left
LeavesAsKept limits (Some (command.Past base)) status o bytes left = HasReadPast limits base status o.past bytes left
LeavesAsKept limits _ status o bytes left = Unit {0}
