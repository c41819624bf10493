-- What keeping a history answers and leaves.
use Rattle.std.specs.Prelude.{ℕ, ◌≡◌, ◌≢◌, ◌+◌, ◌*◌, ◌==◌, ◌⊎◌, List, [], ◌∷◌, drop, Option, Some, None, if◌then◌else◌}
use Rattle.std.specs.Str.{bytes_eq}
use Rattle.road_time.specs.declared.day.Limits.{Limits}
use Rattle.road_time.specs.declared.day.SpentRow.{SpentRow}
use Rattle.road_digest.specs.declared.digest.Digest.{Digest}
use Rattle.keep_office.specs.declared.kept.DayRecord.{DayRecord}
use Rattle.keep_office.specs.declared.kept.PastRecord.{PastRecord}
use Rattle.keep_office.specs.declared.kept.KeepFault.{KeepFault}
use Rattle.keep_office.specs.declared.kept.KeepFault.TheVariants as keeping
use Rattle.keep_office.specs.Office.{Office, last_day}
use Rattle.keep_office.specs.Kept.{IsPastPut, with_past}
use Rattle.road_digest.specs.Digests.{found_digest}
use Rattle.keep_office.specs.PastReads.{PastFault, past_reads, past_record, next_past}
use Rattle.keep_office.specs.Calls.{WhenRefused, Leaves}
use Rattle.day_reading.specs.Days.{StopsSoon}
use Rattle.day_past.specs.Causes.{past_cause_of}
use Rattle.day_past.specs.declared.outcomes.PastOutcome.{PastOutcome}
use Rattle.day_past.specs.declared.outcomes.PastOutcome.TheVariants.{Stored, Already, Row, PastLate, OtherBase}
use Rattle.day_past.specs.declared.outcomes.PastOutcome.TheVariants.{Differs, ReadFault, KeeperFault, NoMemory}

-- what a call answers, and the office that it leaves
pub record PastAnswer : Type 0 where
  pub outcome : PastOutcome
  pub office : Office

-- nothing changes
abbrev pub unchanged : PastOutcome → Office → PastAnswer
unchanged outcome o = record { outcome = outcome; office = o }

-- the outcome of a history whose keeper refused
abbrev pub past_refused : KeepFault → PastOutcome
past_refused keeping.Failed = KeeperFault
past_refused keeping.NoMemory = NoMemory

-- the amounts of all lines are kept; or a line was refused, and nothing is
abbrev pub past_read : ℕ → List ℕ → List SpentRow → Option (ℕ × PastFault) → Office → PastAnswer
past_read base bytes rows None o =
    record { outcome = Stored (past_record base bytes rows); office = next_past base bytes rows o }
past_read base bytes rows (Some (line, fault)) o = unchanged (Row line (past_cause_of fault)) o

-- a history is kept of this base: whether what was found is what is kept
abbrev pub past_compared : PastRecord → Digest → PastOutcome
past_compared kept found = if bytes_eq found.bytes kept.digest.bytes then Already kept else Differs kept.digest found

-- a history is kept: one of another base is not compared
abbrev pub past_again : PastRecord → ℕ → List ℕ → PastOutcome
past_again kept base bytes =
    if kept.base == base then past_compared kept (found_digest bytes kept.bytes) else OtherBase kept.base

-- no history is kept: where a day is, it is too late for one
abbrev pub past_new : List DayRecord → ℕ → Limits → List ℕ → Office → PastAnswer
past_new [] base limits bytes o =
    past_read base bytes (past_reads bytes base limits).rows (past_reads bytes base limits).refused o
past_new (d ∷ ds) base limits bytes o = unchanged (PastLate (last_day o)) o

-- by the history that is kept, if one is
abbrev pub past_by_kept : Option PastRecord → ℕ → Limits → List ℕ → Office → PastAnswer
past_by_kept (Some kept) base limits bytes o = unchanged (past_again kept base bytes) o
past_by_kept None base limits bytes o = past_new o.days base limits bytes o

-- keeping a history of these bytes, its days counted back from a base
abbrev pub past_answer : ℕ → Limits → List ℕ → Office → PastAnswer
past_answer base limits bytes o = past_by_kept o.past base limits bytes o

-- Against what should be answered:

-- all was done
pub record DoesAllPast (a : PastAnswer) (outcome : PastOutcome) (now : Option Office) : Type 0 where
  pub outcome_is : outcome ≡ a.outcome
  pub kept : now ≡ Some a.office

-- a fault or want of memory: the office is as it was, or the put was refused, which leaves what its keeper leaves
abbrev pub HaltsPast : WhenRefused → KeepFault → PastAnswer → Office → Option Office → Type 0
HaltsPast w fault a was now = (now ≡ Some was) ⊎ ((o : Office) × (now ≡ Some o) × Leaves w fault o was a.office)

-- what was done, by how the call ended
abbrev pub DoesPast : WhenRefused → PastAnswer → Office → Option Office → PastOutcome → Type 0
DoesPast w a was now ReadFault = now ≡ Some was
DoesPast w a was now KeeperFault = HaltsPast w keeping.Failed a was now
DoesPast w a was now NoMemory = HaltsPast w keeping.NoMemory a was now
DoesPast w a was now outcome = DoesAllPast a outcome now

-- what is left of the source: nothing where a history was read whole, and all behind one byte more than a kept history
-- had
abbrev pub LeavesPast : PastOutcome → Option PastRecord → List ℕ → Option (List ℕ) → Type 0
LeavesPast (Stored r) kept bytes left = left ≡ Some []
LeavesPast (Already r) (Some kept) bytes left = left ≡ Some (drop (kept.bytes + 1) bytes)
LeavesPast (Differs k found) (Some kept) bytes left = left ≡ Some (drop (kept.bytes + 1) bytes)
LeavesPast _ kept bytes left = Unit {0}

-- the most that a history is read: a line more than it may have, each of 200 bytes and its end, and one buffer
abbrev pub most_past : Limits → ℕ
most_past limits = 201 * (limits.past + 1) + 65536

-- the most that keeping a history reads: of one that is kept, one byte more than it had
abbrev pub most_kept : Option PastRecord → Limits → ℕ
most_kept None limits = most_past limits
most_kept (Some kept) limits = kept.bytes + 1

-- a history of this base needs no source: one of another base is kept, or a day is and no history
abbrev pub NeedsNone : Option PastRecord → ℕ → Office → Type 0
NeedsNone (Some kept) base o = kept.base ≢ base
NeedsNone None base o = o.days ≢ []

-- an end before the source is read
abbrev pub IsUnread : PastOutcome → Type 0
IsUnread (PastLate last) = Unit {0}
IsUnread (OtherBase kept) = Unit {0}
IsUnread _ = ⊥

-- where a line was refused, no more than one buffer behind it was read
abbrev pub RefusesSoon : PastOutcome → List ℕ → Option (List ℕ) → Type 0
RefusesSoon (Row line cause) bytes left = StopsSoon line bytes left
RefusesSoon _ bytes left = Unit {0}

-- an end that no comparison with a kept history has
abbrev pub IsPastUncompared : PastOutcome → Type 0
IsPastUncompared (Already kept) = ⊥
IsPastUncompared (Differs kept found) = ⊥
IsPastUncompared ReadFault = ⊥
IsPastUncompared NoMemory = ⊥
IsPastUncompared _ = Unit {0}

-- a history of this base was put with its amounts
abbrev pub IsPastOf : ℕ → Office → Office → Type 0
IsPastOf base was now =
    (kept : PastRecord) × (rows : List SpentRow) × (kept.base ≡ base) × IsPastPut kept rows
    × (now ≡ with_past kept rows was)

-- what is kept is as it was, or with one history more
abbrev pub PutsPast : ℕ → Office → Option Office → Type 0
PutsPast base was now = (o : Office) × (now ≡ Some o) × ((o ≡ was) ⊎ IsPastOf base was o)

-- what is kept is as it was, but where a history was put, or its put refused
abbrev pub KeepsAllPast : PastOutcome → Type 0 → Type 0
KeepsAllPast (Stored kept) same = Unit {0}
KeepsAllPast KeeperFault same = Unit {0}
KeepsAllPast NoMemory same = Unit {0}
KeepsAllPast _ same = same
