-- What importing a day answers, writes and leaves.
use Rattle.std.specs.Prelude.{ℕ, ◌≡◌, ◌+◌, ◌⊎◌, nat_le, List, [], length, drop, Option, Some, None, if◌then◌else◌}
use Rattle.std.specs.Str.{bytes_eq}
use Rattle.std.specs.Io.KnownBytes.{Appends}
use Rattle.road_time.specs.declared.road.Notice.{Notice}
use Rattle.road_time.specs.declared.road.Tuple.{Tuple}
use Rattle.road_time.specs.declared.day.SpentRow.{SpentRow}
use Rattle.road_time.specs.declared.day.Limits.{Limits}
use Rattle.road_time.specs.Form.{Fault}
use Rattle.road_time.specs.Reads.{reads}
use Rattle.road_time.specs.Sights.{moments}
use Rattle.road_time.specs.Tolls.{StretchTold}
use Rattle.road_time.specs.Day.{ChargedToll, given, merged, notices, charges, charges_by, sum_of}
use Rattle.road_time.specs.Rows.{rows_from}
use Rattle.road_time.specs.Text.{out}
use Rattle.tuples_text.specs.Causes.{cause_of}
use Rattle.tuples_text.specs.declared.cause.Cause.{Cause}
use Rattle.road_digest.specs.declared.digest.Digest.{Digest}
use Rattle.keep_office.specs.declared.kept.DayRecord.{DayRecord}
use Rattle.keep_office.specs.declared.kept.KeepFault.{KeepFault}
use Rattle.keep_office.specs.declared.kept.KeepFault.TheVariants as keeping
use Rattle.road_digest.specs.Digests.{digest_of, found_digest}
use Rattle.road_time.specs.History.{paid}
use Rattle.keep_office.specs.Office.{Office, record_of, last_day}
use Rattle.keep_office.specs.Kept.{IsDayPut, seal_of, with_day}
use Rattle.keep_office.specs.Calls.{WhenRefused, Leaves}
use Rattle.day_floor.specs.Printing.{WritesFront, WritesLess}
use Rattle.day_reading.specs.Days.{StopsSoon, most_of_day}
use Rattle.day_import.specs.declared.outcomes.Outcome.{Outcome}
use Rattle.day_import.specs.declared.outcomes.AnsweredDay.{AnsweredDay}
use Rattle.day_import.specs.declared.outcomes.Outcome.TheVariants.{Stored, Already, Answered, Refused, DayPassed}
use Rattle.day_import.specs.declared.outcomes.Outcome.TheVariants.{Differs, ReadFault, WriteFault, KeeperFault}
use Rattle.day_import.specs.declared.outcomes.Outcome.TheVariants.{NoMemory}

-- what a call answers, what it writes, and the office that it leaves
pub record DayAnswer : Type 0 where
  pub outcome : Outcome
  pub text : List ℕ
  pub office : Office

-- what a day told and what it charged
pub record Work : Type 0 where
  pub told : List Notice
  pub charged : List ChargedToll

-- the work of a day by the rules, under the tariffs and after the history of an office
abbrev pub work_of : ℕ → List Tuple → Office → Work
work_of number day o =
    record { told = notices day o.tariffs number (paid o.rows); charged = charges day o.tariffs (moments day) }

-- the work of a day by what was found for the reports that are told
abbrev pub work_by : List (ℕ × StretchTold) → ℕ → List Tuple → Office → Work
work_by found number day o =
    record { told = merged day found number (paid o.rows); charged = charges_by (given found) (moments day) }

-- what is kept of a day with this work
abbrev pub worked_record : Work → ℕ → List ℕ → List Tuple → Office → DayRecord
worked_record work number bytes day o =
    record {
      day = number;
      digest = digest_of bytes;
      bytes = length bytes;
      tuples = length day;
      notices =
          length work.told;
      notices_digest = digest_of (out work.told);
      tariffs = seal_of o.tariffs;
      total =
          sum_of work.charged;
    }

-- what a day with this work comes to
abbrev pub worked_sums : Work → List ℕ → List Tuple → AnsweredDay
worked_sums work bytes day =
    record {
      bytes = length bytes;
      tuples = length day;
      notices = length work.told;
      total = sum_of work.charged;
    }

-- the office with that day
abbrev pub worked_office : Work → ℕ → List ℕ → List Tuple → Office → Office
worked_office work number bytes day o =
    with_day (worked_record work number bytes day o) (rows_from number work.charged) o

-- the output of all tuples, and the day is kept; or that of the tuples before the first refused line, and nothing is
abbrev pub import_worked : Work → ℕ → List ℕ → List Tuple → Option (ℕ × Fault) → Office → DayAnswer
import_worked work number bytes day None o =
    record {
      outcome = Stored (worked_record work number bytes day o);
      text = out work.told;
      office =
          worked_office work number bytes day o;
    }
import_worked work number bytes day (Some (line, fault)) o =
    record { outcome = Refused line (cause_of fault); text = out work.told; office = o }

-- the output of all tuples of a day that is answered, or of those before the first refused line; nothing is kept
abbrev pub answers_worked : Work → List ℕ → List Tuple → Option (ℕ × Fault) → Office → DayAnswer
answers_worked work bytes day None o =
    record { outcome = Answered (worked_sums work bytes day); text = out work.told; office = o }
answers_worked work bytes day (Some (line, fault)) o =
    record { outcome = Refused line (cause_of fault); text = out work.told; office = o }

-- a day that is kept: whether what was found is what is kept
abbrev pub again : DayRecord → Digest → Outcome
again kept found = if bytes_eq found.bytes kept.digest.bytes then Already kept else Differs kept.digest found

-- nothing is written and nothing changes
abbrev pub unwritten : Outcome → Office → DayAnswer
unwritten outcome o = record { outcome = outcome; text = []; office = o }

-- a day that is not kept: a passed one is not read, and of another one the answer is given
abbrev pub unless_passed : DayAnswer → ℕ → Office → DayAnswer
unless_passed read number o = if nat_le number (last_day o) then unwritten (DayPassed (last_day o)) o else read

-- by the record of the day, if the office has one
abbrev pub unless_recorded : Option DayRecord → DayAnswer → ℕ → List ℕ → Office → DayAnswer
unless_recorded (Some kept) read number bytes o = unwritten (again kept (found_digest bytes kept.bytes)) o
unless_recorded None read number bytes o = unless_passed read number o

-- importing a day of these bytes, where that is the answer if it is read
abbrev pub unless_kept : DayAnswer → ℕ → List ℕ → Office → DayAnswer
unless_kept read number bytes o = unless_recorded (record_of o number) read number bytes o

-- By the rules:

-- importing a day that was read
abbrev pub import_read : ℕ → List ℕ → List Tuple → Option (ℕ × Fault) → Office → DayAnswer
import_read number bytes day refused o = import_worked (work_of number day o) number bytes day refused o

-- answering a day that was read
abbrev pub answers_read : ℕ → List ℕ → List Tuple → Option (ℕ × Fault) → Office → DayAnswer
answers_read number bytes day refused o = answers_worked (work_of number day o) bytes day refused o

-- importing a new day of these bytes
abbrev pub new_import : ℕ → ℕ → Limits → List ℕ → Office → DayAnswer
new_import number late limits bytes o =
    import_read number bytes (reads bytes limits late).tuples (reads bytes limits late).refused o

-- importing a day of these bytes
abbrev pub import_answer : ℕ → ℕ → Limits → List ℕ → Office → DayAnswer
import_answer number late limits bytes o = unless_kept (new_import number late limits bytes o) number bytes o

-- answering a day of these bytes
abbrev pub answers_answer : ℕ → ℕ → Limits → List ℕ → Office → DayAnswer
answers_answer number late limits bytes o =
    answers_read number bytes (reads bytes limits late).tuples (reads bytes limits late).refused o

-- By what was found:

-- importing a day that was read
abbrev pub import_merged : List (ℕ × StretchTold) → ℕ → List ℕ → List Tuple → Option (ℕ × Fault) → Office → DayAnswer
import_merged found number bytes day refused o = import_worked (work_by found number day o) number bytes day refused o

-- answering a day that was read, by these findings
abbrev pub answers_merged : List (ℕ × StretchTold) → ℕ → List ℕ → List Tuple → Option (ℕ × Fault) → Office → DayAnswer
answers_merged found number bytes day refused o = answers_worked (work_by found number day o) bytes day refused o

-- importing a new day of these bytes
abbrev pub new_import_found : List (ℕ × StretchTold) → ℕ → ℕ → Limits → List ℕ → Office → DayAnswer
new_import_found found number late limits bytes o =
    import_merged found number bytes (reads bytes limits late).tuples (reads bytes limits late).refused o

-- importing a day of these bytes
abbrev pub import_found : List (ℕ × StretchTold) → ℕ → ℕ → Limits → List ℕ → Office → DayAnswer
import_found found number late limits bytes o =
    unless_kept (new_import_found found number late limits bytes o) number bytes o

-- answering a day of these bytes, by these findings
abbrev pub answers_found : List (ℕ × StretchTold) → ℕ → ℕ → Limits → List ℕ → Office → DayAnswer
answers_found found number late limits bytes o =
    answers_merged found number bytes (reads bytes limits late).tuples (reads bytes limits late).refused o

-- Against what should be answered:

-- all was done
pub record DoesAll (a : DayAnswer) (outcome : Outcome) (old new : Option (List ℕ)) (now : Option Office) : Type 0 where
  pub outcome_is : outcome ≡ a.outcome
  pub wrote : Appends old new a.text
  pub kept : now ≡ Some a.office

-- all was written, and the put was refused, which leaves what its keeper leaves
abbrev pub IsUnput : WhenRefused → KeepFault → DayAnswer → Office → Option (List ℕ) → Option (List ℕ) → Option Office
    → Type 0
IsUnput w fault a was old new now =
    Appends old new a.text × ((o : Office) × (now ≡ Some o) × Leaves w fault o was a.office)

-- a fault or want of memory on the way: the office is as it was, or all was written and the put was refused
abbrev pub Halts : WhenRefused → KeepFault → DayAnswer → Office → Option (List ℕ) → Option (List ℕ) → Option Office
    → Type 0
Halts w fault a was old new now = (WritesFront a.text old new × (now ≡ Some was)) ⊎ IsUnput w fault a was old new now

-- what was done, by how the call ended
abbrev pub Does : WhenRefused → DayAnswer → Office → Option (List ℕ) → Option (List ℕ) → Option Office → Outcome →
    Type 0
Does w a was old new now ReadFault = WritesFront a.text old new × (now ≡ Some was)
Does w a was old new now WriteFault = WritesLess a.text old new × (now ≡ Some was)
Does w a was old new now KeeperFault = Halts w keeping.Failed a was old new now
Does w a was old new now NoMemory = Halts w keeping.NoMemory a was old new now
Does w a was old new now outcome = DoesAll a outcome old new now

-- the same, where nothing is said of what was written before a fault
abbrev pub Merges : WhenRefused → DayAnswer → Office → Option (List ℕ) → Option (List ℕ) → Option Office → Outcome →
    Type 0
Merges w a was old new now ReadFault = now ≡ Some was
Merges w a was old new now WriteFault = now ≡ Some was
Merges w a was old new now KeeperFault = (now ≡ Some was) ⊎ IsUnput w keeping.Failed a was old new now
Merges w a was old new now NoMemory = (now ≡ Some was) ⊎ IsUnput w keeping.NoMemory a was old new now
Merges w a was old new now outcome = DoesAll a outcome old new now

-- what an import leaves of the source of a day that is kept: one byte more than it had is taken
abbrev pub LeavesRest : Outcome → Option DayRecord → List ℕ → Option (List ℕ) → Type 0
LeavesRest (Already r) (Some kept) bytes left = left ≡ Some (drop (kept.bytes + 1) bytes)
LeavesRest (Differs k found) (Some kept) bytes left = left ≡ Some (drop (kept.bytes + 1) bytes)
LeavesRest _ kept bytes left = Unit {0}

-- the first refused line is this one, for this cause
abbrev pub IsRefusedAt : ℕ → Cause → Option (ℕ × Fault) → Type 0
IsRefusedAt line cause refused = (fault : Fault) × (refused ≡ Some (line, fault)) × (cause_of fault ≡ cause)

-- what is left of the source of a day that was read: nothing where no line of it is refused, and else no less than all
-- but one buffer behind its first refused line
abbrev pub LeavesRead : Outcome → Option (ℕ × Fault) → List ℕ → Option (List ℕ) → Type 0
LeavesRead (Stored kept) refused bytes left = (refused ≡ None) × (left ≡ Some [])
LeavesRead (Answered kept) refused bytes left = (refused ≡ None) × (left ≡ Some [])
LeavesRead (Refused line cause) refused bytes left = IsRefusedAt line cause refused × StopsSoon line bytes left
LeavesRead _ refused bytes left = Unit {0}

-- the most that an import reads: of a day that is kept, one byte more than it had
abbrev pub most_imported : Option DayRecord → Limits → ℕ
most_imported None limits = most_of_day limits
most_imported (Some kept) limits = kept.bytes + 1

-- the outcome of a day that is read
abbrev pub IsOfNewDay : Outcome → Type 0
IsOfNewDay (Already kept) = ⊥
IsOfNewDay (Answered kept) = ⊥
IsOfNewDay (DayPassed last) = ⊥
IsOfNewDay (Differs kept found) = ⊥
IsOfNewDay _ = Unit {0}

-- the outcome of a day that is answered
abbrev pub IsOfAnswers : Outcome → Type 0
IsOfAnswers (Stored kept) = ⊥
IsOfAnswers (Already kept) = ⊥
IsOfAnswers (DayPassed last) = ⊥
IsOfAnswers (Differs kept found) = ⊥
IsOfAnswers _ = Unit {0}

-- the outcome of a day that is kept
abbrev pub IsOfKeptDay : Outcome → Type 0
IsOfKeptDay (Already kept) = Unit {0}
IsOfKeptDay (Differs kept found) = Unit {0}
IsOfKeptDay ReadFault = Unit {0}
IsOfKeptDay NoMemory = Unit {0}
IsOfKeptDay _ = ⊥

-- what an import leaves alone: all but the keeper, where the day is passed; where it is kept, all but the keeper and
-- the source; and it answers no day
abbrev pub LeavesAlone : Outcome → Type 0 → Type 0 → Type 0
LeavesAlone (Already kept) source others = others
LeavesAlone (Answered kept) source others = ⊥
LeavesAlone (DayPassed last) source others = source × others
LeavesAlone (Differs kept found) source others = others
LeavesAlone _ source others = Unit {0}

-- a record of a day with this number was put with its amounts
abbrev pub IsPutOf : ℕ → Office → Office → Type 0
IsPutOf number was now =
    (kept : DayRecord) × (rows : List SpentRow) × (kept.day ≡ number) × IsDayPut kept rows
    × (now ≡ with_day kept rows was)

-- what is kept is as it was, or with one day more
abbrev pub PutsOnce : ℕ → Office → Option Office → Type 0
PutsOnce number was now = (o : Office) × (now ≡ Some o) × ((o ≡ was) ⊎ IsPutOf number was o)

-- what is kept is as it was where the day could not be read or written, and where a line was refused
abbrev pub KeepsAll : Outcome → Type 0 → Type 0
KeepsAll (Stored kept) same = Unit {0}
KeepsAll KeeperFault same = Unit {0}
KeepsAll NoMemory same = Unit {0}
KeepsAll _ same = same

-- what is kept is as it was, or the source was read to its end and did not fail
abbrev pub KeepsUnlessRead : Option Office → Option Office → Option (List ℕ) → ℕ → ℕ → Type 0
KeepsUnlessRead before now left faults later = (now ≡ before) ⊎ ((left ≡ Some []) × (later ≡ faults))

-- an end that no comparison with a kept day has
abbrev pub IsUncompared : Outcome → Type 0
IsUncompared (Already kept) = ⊥
IsUncompared (Answered kept) = ⊥
IsUncompared (Differs kept found) = ⊥
IsUncompared ReadFault = ⊥
IsUncompared NoMemory = ⊥
IsUncompared _ = Unit {0}
