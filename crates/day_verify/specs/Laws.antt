-- Laws of what is said of a kept day, which no code runs.
use Rattle.std.specs.Prelude.{◌≡◌, ℕ, List, length, Some, None}
use Rattle.road_time.specs.declared.day.Limits.{Limits}
use Rattle.road_time.specs.declared.day.SpentRow.{SpentRow}
use Rattle.road_time.specs.Reads.{reads}
use Rattle.road_time.specs.Rows.{rows_of}
use Rattle.keep_office.specs.declared.kept.DayRecord.{DayRecord}
use Rattle.keep_office.specs.Office.{Office, record_of, rows_between}
use Rattle.keep_office.specs.Kept.{kept_record}
use Rattle.day_verify.specs.declared.verdict.Verdict.TheVariants.{Verified}
use Rattle.day_verify.specs.Partings.{parting}
use Rattle.day_verify.specs.Verdicts.{verdict_of}

-- what is kept of a day is what importing it would keep, under the tariffs and after the history of this office: its
-- record, and its amounts
pub record IsRight (number late : ℕ) (limits : Limits) (bytes : List ℕ) (o : Office) (kept : DayRecord)
    (amounts : ℕ) : Type 0 where
  pub whole : (reads bytes limits late).refused ≡ None
  pub kept_is : record_of o number ≡ Some kept
  pub record_is : kept ≡ kept_record number bytes (reads bytes limits late).tuples o
  pub rows_are : rows_between o number number ≡ rows_of (reads bytes limits late).tuples o.tariffs number
  pub counted : amounts ≡ length (rows_between o number number)

-- of a day that is verified all that is kept is right
abbrev pub VerifiedLaw : Type 0
VerifiedLaw =
    (number late : ℕ) (limits : Limits) (bytes : List ℕ) (o : Office) (kept : DayRecord) (amounts : ℕ) →
    verdict_of number late limits bytes o ≡ Verified kept amounts → IsRight number late limits bytes o kept amounts

-- amounts that nowhere part are the same
abbrev pub AgreeLaw : Type 0
AgreeLaw = (kept right : List SpentRow) → parting kept right ≡ None → kept ≡ right
