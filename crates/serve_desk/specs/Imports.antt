-- A day that is imported from the body of a request.
use Rattle.std.specs.Prelude.{◌≡◌, ◌≢◌, ◌⊎◌, ℕ, ◌≤◌, ◌<◌, Bool, true, List, length, take, drop, Option, Some, None}
use Rattle.road_io.specs.Faults.{Rose}
use Rattle.road_io.specs.Plans.{NeverFails}
use Rattle.road_time.specs.declared.day.Limits.{Limits}
use Rattle.road_time.specs.Reads.{reads}
use Rattle.day_floor.specs.Operations.{Posted}
use Rattle.keep_office.specs.declared.kept.DayRecord.{DayRecord}
use Rattle.keep_office.specs.Calls.{WhenRefused}
use Rattle.keep_office.specs.Office.{Office}
use Rattle.day_import.specs.declared.outcomes.Outcome.{Outcome}
use Rattle.day_import.specs.declared.outcomes.Outcome.TheVariants.{Stored, ReadFault, WriteFault, KeeperFault}
use Rattle.day_import.specs.Imports.{import_answer, Does, PutsOnce, LeavesAlone}
use Rattle.day_import.specs.Runs.{PublishesDay}
use Rattle.serve_requests.specs.AskedBodies.{filled}
use Rattle.serve_requests.specs.declared.session_end.SessionEnd.{SessionEnd}
use Rattle.serve_requests.specs.declared.session_end.SessionEnd.TheVariants.{Cut, LinkFault}
use Rattle.serve_desk.specs.Answers.{Wire, AnswersOutcome}

-- what a desk keeps, where it tells that: its office, the faults that its keeper counted, and what it published and
-- queued
pub record DeskState : Type 0 where
  pub told : Option Office
  pub faults : ℕ
  pub posted : Posted

-- it, as it is
abbrev pub state_of : Option Office → ℕ → Posted → DeskState
state_of told faults posted = record { told = told; faults = faults; posted = posted }

-- the import of a day from these bytes: over an exact crew by the rules, what is kept and what is published; over any
-- crew one whole put at most, and nothing published of a day that is kept or passed
pub record Imports (w : WhenRefused) (exact : Bool) (day : ℕ) (limits : Limits) (bytes : List ℕ) (o : Office)
    (now : Option Office) (was : Posted) (posted : Option Posted) (outcome : Outcome) : Type 0 where
  pub does : exact ≡ true → Does w (import_answer day 0 limits bytes o) o None None now outcome
  pub publishes : exact ≡ true →
      PublishesDay o.tariffs (reads bytes limits 0).tuples day limits.backlog was posted outcome
  pub puts : PutsOnce day o now
  pub alone : LeavesAlone outcome (Unit {0}) (posted ≡ Some was)

-- the outcome of a body that was there
abbrev pub IsOfBody : Outcome → Type 0
IsOfBody outcome = (outcome ≢ ReadFault) × (outcome ≢ WriteFault)

-- the bytes end before the body does: nothing is answered, and no day is stored
abbrev pub IsCutShort : ℕ → List ℕ → Outcome → Wire → Wire → SessionEnd → Type 0
IsCutShort count all outcome old new end =
    (end ≡ Cut) × (length all < count) × (new.written ≡ old.written) × ((kept : DayRecord) → outcome ≢ Stored kept)

-- the link failed in the body: nothing is answered
abbrev pub FailsInBody : Wire → Wire → SessionEnd → Type 0
FailsInBody old new end = (end ≡ LinkFault) × (new.written ≡ old.written) × (NeverFails old.plan → ⊥)

-- the body was there and was read to its end and no further, and how its import ended is answered
abbrev pub AnswersBody : ℕ → List ℕ → Outcome → Wire → Wire → SessionEnd → Type 0
AnswersBody count all outcome old new end =
    (count ≤ length all) × (new.left ≡ Some (drop count all)) × IsOfBody outcome
    × AnswersOutcome outcome old.room old.written new.written end

-- a day is imported from a body of so many bytes; one that is cut or failed in counts as one that goes on with zeros,
-- and what is kept is as it was
abbrev pub ImportsDay : WhenRefused → Bool → ℕ → Limits → ℕ → List ℕ → Office → DeskState → DeskState → Wire → Wire →
    SessionEnd
    → Type 0
ImportsDay w exact day limits count all o was now old new end =
    (outcome : Outcome) × (outcome ≡ KeeperFault → Rose was.faults now.faults)
    × ((AnswersBody count all outcome old new end × Imports w exact day limits (take count all) o now.told was.posted
    (Some now.posted) outcome)
    ⊎ ((IsCutShort count all outcome old new end ⊎ FailsInBody old new end) × (now.told ≡ was.told)
    × Imports w exact day limits (filled count all) o now.told was.posted (Some now.posted) outcome))
