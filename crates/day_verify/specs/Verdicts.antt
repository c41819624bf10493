-- What is said of a kept day, by its bytes and by what is kept.
use Rattle.std.specs.Prelude.{ℕ, ◌≡◌, ◌==◌, List, [], length, Option, Some, None, if◌then◌else◌}
use Rattle.std.specs.Str.{bytes_eq}
use Rattle.road_time.specs.declared.road.Tuple.{Tuple}
use Rattle.road_time.specs.declared.day.SpentRow.{SpentRow}
use Rattle.road_time.specs.declared.day.Limits.{Limits}
use Rattle.road_time.specs.Form.{Fault}
use Rattle.road_time.specs.Reads.{reads}
use Rattle.road_time.specs.Rows.{rows_from}
use Rattle.road_time.specs.Text.{out}
use Rattle.tuples_text.specs.Causes.{cause_of}
use Rattle.road_digest.specs.declared.digest.Digest.{Digest}
use Rattle.road_digest.specs.Digests.{digest_of}
use Rattle.keep_office.specs.declared.kept.DayRecord.{DayRecord}
use Rattle.keep_office.specs.declared.kept.KeepFault.{KeepFault}
use Rattle.keep_office.specs.declared.kept.KeepFault.TheVariants as keeping
use Rattle.keep_office.specs.Office.{Office, record_of, rows_between}
use Rattle.keep_office.specs.Kept.{seal_of}
use Rattle.day_reading.specs.declared.whole_day.DayEnd.{DayEnd}
use Rattle.day_reading.specs.declared.whole_day.DayEnd.TheVariants as end
use Rattle.day_import.specs.declared.fault.DayFault.{DayFault}
use Rattle.day_import.specs.declared.fault.DayFault.TheVariants as stop
use Rattle.day_import.specs.declared.outcomes.AnsweredDay.{AnsweredDay}
use Rattle.day_import.specs.declared.day.WorkedDay.{WorkedDay}
use Rattle.day_import.specs.Imports.{Work, work_of, worked_sums, IsRefusedAt}
use Rattle.day_import.specs.Stages.{run_sums, IsReadWhole}
use Rattle.day_reading.specs.Days.{StopsSoon, most_of_day}
use Rattle.road_io.specs.Within.{ReadsWithin}
use Rattle.day_verify.specs.declared.verdict.Amiss.{Amiss}
use Rattle.day_verify.specs.declared.verdict.Amiss.TheVariants.{Bytes, Tuples, Notices, Text, Total}
use Rattle.day_verify.specs.declared.verdict.Parting.{Parting}
use Rattle.day_verify.specs.declared.verdict.Verdict.{Verdict}
use Rattle.day_verify.specs.declared.verdict.Verdict.TheVariants.{Verified, UnsoundAmount, UnsoundRecord, Differs}
use Rattle.day_verify.specs.declared.verdict.Verdict.TheVariants.{OtherTariffs, NoDay, Refused, ReadFault, KeeperFault}
use Rattle.day_verify.specs.declared.verdict.Verdict.TheVariants.{NoMemory}
use Rattle.day_verify.specs.Partings.{parting}

-- what is first amiss in a record, by what its day comes to and the digest of its notices
abbrev pub amiss_of : DayRecord → AnsweredDay → Digest → Option Amiss
amiss_of kept sums text =
    if kept.bytes == sums.bytes then if kept.tuples == sums.tuples then if kept.notices == sums.notices then
    if bytes_eq kept.notices_digest.bytes text.bytes then if kept.total == sums.total then None
    else Some (Total kept.total sums.total)
    else Some (Text kept.notices_digest text)
    else Some (Notices kept.notices sums.notices)
    else Some (Tuples kept.tuples sums.tuples)
    else Some (Bytes kept.bytes sums.bytes)

-- what is said of a day by its first amount and by the first of its record that is amiss
abbrev pub verdict_by : DayRecord → ℕ → Option Parting → Option Amiss → Verdict
verdict_by kept amounts (Some p) amiss = UnsoundAmount p
verdict_by kept amounts None (Some a) = UnsoundRecord a
verdict_by kept amounts None None = Verified kept amounts

-- what is said of a day by its record and its amounts, where it comes to these sums, notices with this digest, and
-- those amounts
abbrev pub judged : DayRecord → List SpentRow → AnsweredDay → Digest → List SpentRow → Verdict
judged kept rows sums text right = verdict_by kept (length rows) (parting rows right) (amiss_of kept sums text)

-- the same of a day whose bytes have this digest: one that is kept of other bytes is not judged
abbrev pub whole_verdict : DayRecord → Digest → List SpentRow → AnsweredDay → Digest → List SpentRow → Verdict
whole_verdict kept found rows sums text right =
    if bytes_eq found.bytes kept.digest.bytes then judged kept rows sums text right else Differs kept.digest found

-- what is said of a kept day of these bytes, whose work is that, or whose first refused line is named
abbrev pub read_verdict : DayRecord → Work → ℕ → List ℕ → List Tuple → Option (ℕ × Fault) → Office → Verdict
read_verdict kept work number bytes day (Some (line, fault)) o = Refused line (cause_of fault)
read_verdict kept work number bytes day None o =
    whole_verdict kept (digest_of bytes) (rows_between o number number) (worked_sums work bytes day)
    (digest_of (out work.told)) (rows_from number work.charged)

-- what is said of a kept day of these bytes, by the rules
abbrev pub kept_verdict : DayRecord → ℕ → ℕ → Limits → List ℕ → Office → Verdict
kept_verdict kept number late limits bytes o =
    let day = (reads bytes limits late).tuples in
    read_verdict kept (work_of number day o) number bytes day (reads bytes limits late).refused o

-- what is said of a kept day: one that was charged under other tariffs is not worked again
abbrev pub sealed_verdict : DayRecord → ℕ → ℕ → Limits → List ℕ → Office → Verdict
sealed_verdict kept number late limits bytes o =
    if bytes_eq (seal_of o.tariffs).bytes kept.tariffs.bytes then kept_verdict kept number late limits bytes o
    else OtherTariffs kept.tariffs (seal_of o.tariffs)

-- what is said of a day by its record, if it has one
abbrev pub recorded_verdict : Option DayRecord → ℕ → ℕ → Limits → List ℕ → Office → Verdict
recorded_verdict None number late limits bytes o = NoDay
recorded_verdict (Some kept) number late limits bytes o = sealed_verdict kept number late limits bytes o

-- what is said of a day with this number, by these bytes and by what an office keeps
abbrev pub verdict_of : ℕ → ℕ → Limits → List ℕ → Office → Verdict
verdict_of number late limits bytes o = recorded_verdict (record_of o number) number late limits bytes o

-- this is what is to be said, unless a fault or want of memory is told
abbrev pub Says : Verdict → Verdict → Type 0
Says verdict ReadFault = Unit {0}
Says verdict KeeperFault = Unit {0}
Says verdict NoMemory = Unit {0}
Says verdict said = said ≡ verdict

-- what is said of a day that was worked, by what its work left
abbrev pub Finishes : ℕ → DayRecord → DayEnd → WorkedDay → Office → Verdict → Type 0
Finishes number kept (end.Whole bytes None) run o said = ⊥
Finishes number kept (end.Whole bytes (Some digest)) run o said =
    (text : Digest) × (run.closed.notices_digest ≡ Some text)
    × Says (whole_verdict kept digest (rows_between o number number) (run_sums bytes run) text run.closed.rows) said
Finishes number kept (end.Refused line cause) run o said = said ≡ Refused line cause

-- what is said of a day whose work was stopped; a sink that keeps nothing does not stop it
abbrev pub stopped_verdict : DayFault → Verdict
stopped_verdict stop.ReadFault = ReadFault
stopped_verdict stop.WriteFault = NoMemory
stopped_verdict stop.KeeperFault = KeeperFault
stopped_verdict stop.NoMemory = NoMemory

-- what is said of a day whose keeper refused
abbrev pub refused_verdict : KeepFault → Verdict
refused_verdict keeping.Failed = KeeperFault
refused_verdict keeping.NoMemory = NoMemory

-- what holds where a day was worked to its end, or to its first refused line
abbrev pub WhereRead : Verdict → Type 0 → Type 0
WhereRead (Verified kept amounts) P = P
WhereRead (UnsoundAmount p) P = P
WhereRead (UnsoundRecord a) P = P
WhereRead (Differs kept found) P = P
WhereRead (Refused line cause) P = P
WhereRead _ P = Unit {0}

-- what the reading of a day leaves of its source: nothing of one that was worked to its end, and of another no less
-- than all but one buffer behind its first refused line
abbrev pub LeavesRead : Verdict → Option (ℕ × Fault) → List ℕ → Option (List ℕ) → Type 0
LeavesRead (Verified kept amounts) refused bytes left = (refused ≡ None) × (left ≡ Some [])
LeavesRead (UnsoundAmount p) refused bytes left = (refused ≡ None) × (left ≡ Some [])
LeavesRead (UnsoundRecord a) refused bytes left = (refused ≡ None) × (left ≡ Some [])
LeavesRead (Differs kept found) refused bytes left = (refused ≡ None) × (left ≡ Some [])
LeavesRead (Refused line cause) refused bytes left = IsRefusedAt line cause refused × StopsSoon line bytes left
LeavesRead _ refused bytes left = Unit {0}

-- a day was read within its limits, and what is left is what is said
pub record ReadsDay (limits : Limits) (late : ℕ) (said : Verdict) (before after : Option (List ℕ)) : Type 0 where
  pub within : ReadsWithin (most_of_day limits) before after
  pub leaves : (bytes : List ℕ) → before ≡ Some bytes → LeavesRead said (reads bytes limits late).refused bytes after

-- a line is named that ended the reading, and else the reading came to its end
abbrev pub IsOfEnd : DayEnd → Verdict → Type 0
IsOfEnd read (Verified kept amounts) = IsReadWhole read
IsOfEnd read (UnsoundAmount p) = IsReadWhole read
IsOfEnd read (UnsoundRecord a) = IsReadWhole read
IsOfEnd read (Differs kept found) = IsReadWhole read
IsOfEnd read (Refused line cause) = read ≡ end.Refused line cause
IsOfEnd read _ = Unit {0}

-- the day was not read
abbrev pub IsUnread : Verdict → Type 0
IsUnread NoDay = Unit {0}
IsUnread (OtherTariffs kept now) = Unit {0}
IsUnread _ = ⊥
