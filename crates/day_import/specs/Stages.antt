-- The stages of an import: the record that is made of a worked day, and that it may be put.

use Rattle.std.specs.Prelude.{ℕ, ◌≡◌, ◌+◌, ◌<◌, ◌^◌, List, drop, Option, Some, None}
use Rattle.std.specs.List.{AllByRecursion}
use Rattle.road_time.specs.declared.day.SpentRow.{SpentRow}
use Rattle.road_time.specs.Rates.{Tariffs}
use Rattle.road_digest.specs.declared.digest.Digest.{Digest}
use Rattle.keep_office.specs.declared.kept.DayRecord.{DayRecord}
use Rattle.keep_office.specs.declared.kept.KeepFault.TheVariants as keeping
use Rattle.keep_office.specs.Office.{Office, RowsRise, sum_of_rows}
use Rattle.keep_office.specs.Kept.{seal_of, with_day}
use Rattle.road_digest.specs.Digests.{found_digest}
use Rattle.keep_office.specs.Calls.{WhenRefused, Leaves}
use Rattle.day_reading.specs.declared.whole_day.DayEnd.{DayEnd}
use Rattle.day_reading.specs.declared.whole_day.DayEnd.TheVariants as end
use Rattle.day_reading.specs.Days.{IsShortDay}
use Rattle.day_import.specs.declared.outcomes.Outcome.{Outcome}
use Rattle.day_import.specs.declared.outcomes.AnsweredDay.{AnsweredDay}
use Rattle.day_import.specs.declared.outcomes.Outcome.TheVariants.{Stored, Already, Answered, Refused, Differs}
use Rattle.day_import.specs.declared.outcomes.Outcome.TheVariants.{ReadFault, KeeperFault, NoMemory}
use Rattle.day_import.specs.declared.day.WorkedDay.{WorkedDay}
use Rattle.day_import.specs.Imports.{again}

-- the record of a day that was worked, with the digests of its bytes and of its text
abbrev pub run_record : ℕ → ℕ → Digest → Digest → WorkedDay → Tariffs → DayRecord
run_record number bytes digest text run tariffs =
    record {
      day = number;
      digest = digest;
      bytes = bytes;
      tuples = run.tuples;
      notices =
          run.closed.notices;
      notices_digest = text;
      tariffs = seal_of tariffs;
      total =
          run.closed.total;
    }

-- a day that was worked may be put
pub record CanPut (number : ℕ) (run : WorkedDay) : Type 0 where
  pub short : IsShortDay run.end
  pub tuples : run.tuples < 2 ^ 63
  pub notices : run.closed.notices < 2 ^ 63
  pub total : run.closed.total < 2 ^ 63
  pub of_day : AllByRecursion (λ r. r.day ≡ number) run.closed.rows
  pub above_zero : AllByRecursion (λ r. 0 < r.tolls) run.closed.rows
  pub rise : RowsRise run.closed.rows
  pub sum : sum_of_rows run.closed.rows ≡ run.closed.total

-- a day was put with its amounts, or was refused, which leaves what its keeper leaves
abbrev pub Stores : WhenRefused → DayRecord → List SpentRow → Office → Option Office → Outcome → Type 0
Stores w kept rows was now (Stored r) = (r ≡ kept) × (now ≡ Some (with_day kept rows was))
Stores w kept rows was now KeeperFault =
    (o : Office) × (now ≡ Some o) × Leaves w keeping.Failed o was (with_day kept rows was)
Stores w kept rows was now NoMemory =
    (o : Office) × (now ≡ Some o) × Leaves w keeping.NoMemory o was (with_day kept rows was)
Stores w kept rows was now _ = ⊥

-- a day that was read whole, with its digest and that of its text, was put, or was refused; of another one the first
-- refused line is named, and nothing is put
abbrev pub Finishes : WhenRefused → ℕ → DayEnd → WorkedDay → Tariffs → Office → Option Office → Outcome → Type 0
Finishes w number (end.Whole bytes None) run tariffs was now outcome = ⊥
Finishes w number (end.Whole bytes (Some digest)) run tariffs was now outcome =
    (text : Digest) × (run.closed.notices_digest ≡ Some text)
    × Stores w (run_record number bytes digest text run tariffs) run.closed.rows was now outcome
Finishes w number (end.Refused line cause) run tariffs was now outcome =
    (outcome ≡ Refused line cause) × (now ≡ Some was)

-- what a day that was worked comes to
abbrev pub run_sums : ℕ → WorkedDay → AnsweredDay
run_sums bytes run =
    record { bytes = bytes; tuples = run.tuples; notices = run.closed.notices; total = run.closed.total }

-- a day that was read whole is answered; of another one the first refused line is named
abbrev pub Tells : DayEnd → WorkedDay → Outcome → Type 0
Tells (end.Whole bytes digest) run outcome = outcome ≡ Answered (run_sums bytes run)
Tells (end.Refused line cause) run outcome = outcome ≡ Refused line cause

-- a day was read to its end
abbrev pub IsReadWhole : DayEnd → Type 0
IsReadWhole (end.Whole bytes digest) = Unit {0}
IsReadWhole (end.Refused line cause) = ⊥

-- a day is stored of a reading that came to its end, and a line is named that ended it
abbrev pub IsOfEnd : DayEnd → Outcome → Type 0
IsOfEnd read (Stored kept) = IsReadWhole read
IsOfEnd read (Refused line cause) = read ≡ end.Refused line cause
IsOfEnd read _ = Unit {0}

-- the source was compared with a kept day, and one byte more than it had is not left
abbrev pub Compares : DayRecord → List ℕ → Option (List ℕ) → Outcome → Type 0
Compares kept bytes left (Already r) =
    (Already r ≡ again kept (found_digest bytes kept.bytes)) × (left ≡ Some (drop (kept.bytes + 1) bytes))
Compares kept bytes left (Differs k found) =
    (Differs k found ≡ again kept (found_digest bytes kept.bytes)) × (left ≡ Some (drop (kept.bytes + 1) bytes))
Compares kept bytes left ReadFault = Unit {0}
Compares kept bytes left NoMemory = Unit {0}
Compares kept bytes left _ = ⊥
