-- What a report wrote, by how it ended.
use Rattle.std.specs.Prelude.{◌≡◌, ℕ, ◌<◌, List, [], length, take, Option, Some, None, Result, Ok, Err}
use Rattle.std.specs.Io.KnownBytes.{Appends}
use Rattle.road_time.specs.declared.day.SpentRow.{SpentRow}
use Rattle.keep_office.specs.declared.kept.DayRecord.{DayRecord}
use Rattle.keep_office.specs.declared.kept.KeepFault.{KeepFault}
use Rattle.keep_office.specs.Office.{sum_of_rows}
use Rattle.keep_office.specs.declared.kept.KeepFault.TheVariants as keeping
use Rattle.office_reports.specs.declared.report_fault.ReportFault.{ReportFault}
use Rattle.office_reports.specs.declared.report_fault.ReportFault.TheVariants.{NoDay, KeeperFault, Unsound, WriteFault, NoMemory}

-- the whole text was written; or the sink failed after some first bytes of it, and not all; or nothing was written,
-- after another fault
abbrev pub WroteText : Result (Unit {0}) ReportFault → Option (List ℕ) → Option (List ℕ) → List ℕ → Type 0
WroteText (Ok u) old new text = Appends old new text
WroteText (Err WriteFault) old new text = (k : ℕ) × (k < length text) × Appends old new (take k text)
WroteText (Err (Unsound day)) old new text = ⊥
WroteText (Err _) old new text = Appends old new []

-- what was written is the text of a record and of amounts that come to its total
abbrev pub AddsUp : (DayRecord → List SpentRow → List ℕ) → Option (List ℕ) → Option (List ℕ) → Type 0
AddsUp text old new =
    (r : DayRecord) × (rows : List SpentRow) × (sum_of_rows rows ≡ r.total) × Appends old new (text r rows)

-- a report that has a text wrote it, or less where the sink failed, and never says that the day is not kept; one that
-- has none writes nothing and says that, unless another fault comes first
abbrev pub Reported : Result (Unit {0}) ReportFault → Option (List ℕ) → Option (List ℕ) → Option (List ℕ) → Type 0
Reported (Ok u) old new None = ⊥
Reported (Ok u) old new (Some text) = Appends old new text
Reported (Err NoDay) old new None = Appends old new []
Reported (Err NoDay) old new (Some text) = ⊥
Reported (Err KeeperFault) old new None = Appends old new []
Reported (Err KeeperFault) old new (Some text) = Appends old new []
Reported (Err (Unsound day)) old new None = ⊥
Reported (Err (Unsound day)) old new (Some text) = ⊥
Reported (Err WriteFault) old new None = ⊥
Reported (Err WriteFault) old new (Some text) = (k : ℕ) × (k < length text) × Appends old new (take k text)
Reported (Err NoMemory) old new None = Appends old new []
Reported (Err NoMemory) old new (Some text) = Appends old new []

-- a keeper's refusal, as a report has it
abbrev pub refused_as : KeepFault → ReportFault
refused_as keeping.Failed = KeeperFault
refused_as keeping.NoMemory = NoMemory
