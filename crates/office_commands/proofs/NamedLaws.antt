-- A day that is answered or imported has a closing line.
use Rattle.std.proofs.Common.{◌≢◌, ℕ, Bool, true, false, if◌then◌else◌, nat_le, List, Option, Some, None}
use Rattle.std.proofs.lemmas.Option.{none-some}
use Rattle.std.specs.Str.{bytes_eq}
use Rattle.road_time.specs.declared.day.Limits.{Limits}
use Rattle.road_time.specs.declared.road.Tuple.{Tuple}
use Rattle.road_time.specs.Form.{Fault}
use Rattle.road_time.specs.Reads.{reads}
use Rattle.road_digest.specs.declared.digest.Digest.{Digest}
use Rattle.road_digest.specs.Digests.{found_digest}
use Rattle.keep_office.specs.declared.kept.DayRecord.{DayRecord}
use Rattle.keep_office.specs.Office.{Office, record_of, last_day}
use Rattle.day_import.specs.Imports.{DayAnswer, Work, work_of, import_worked, answers_worked, unwritten, unless_recorded}
use Rattle.day_import.specs.Imports.{new_import, import_answer, answers_answer}
use Rattle.day_import.specs.declared.outcomes.Outcome.{Outcome}
use Rattle.day_import.specs.declared.outcomes.Outcome.TheVariants.{Already, DayPassed, Differs}
use Rattle.office_commands.specs.Commands.{closing_by}

-- the outcome of a day has a closing line
abbrev IsNamed : ℕ → Outcome → Type 0
IsNamed number done = None ≢ closing_by number done

-- a day that was worked and answered, or refused
answered : (number : ℕ) (work : Work) (bytes : List ℕ) (day : List Tuple) (refused : Option (ℕ × Fault)) (o : Office) →
    IsNamed number (answers_worked work bytes day refused o).outcome
answered number work bytes day None o e = none-some _ e
answered number work bytes day (Some (line, fault)) o e = none-some _ e

-- a day that was worked and stored, or refused
imported : (number : ℕ) (work : Work) (bytes : List ℕ) (day : List Tuple) (refused : Option (ℕ × Fault)) (o : Office) →
    IsNamed number (import_worked work number bytes day refused o).outcome
imported number work bytes day None o e = none-some _ e
imported number work bytes day (Some (line, fault)) o e = none-some _ e

-- a day that was kept
again : (number : ℕ) (same : Bool) (kept : DayRecord) (found : Digest) →
    IsNamed number (if same then Already kept else Differs kept.digest found)
again number true kept found e = none-some _ e
again number false kept found e = none-some _ e

-- a day that is passed, or not
passed : (number : ℕ) (late : Bool) (read : DayAnswer) (o : Office) → IsNamed number read.outcome →
    IsNamed number (if late then unwritten (DayPassed (last_day o)) o else read).outcome
passed number true read o named e = none-some _ e
passed number false read o named e = named e

-- by the record of the day, if there is one
recorded : (number : ℕ) (kept : Option DayRecord) (read : DayAnswer) (bytes : List ℕ) (o : Office) →
    IsNamed number read.outcome → IsNamed number (unless_recorded kept read number bytes o).outcome
recorded number (Some kept) read bytes o named =
    again number (bytes_eq (found_digest bytes kept.bytes).bytes kept.digest.bytes) kept
    (found_digest bytes kept.bytes)
recorded number None read bytes o named = passed number (nat_le number (last_day o)) read o named

-- so an answer has one
pub answers_named : (number late : ℕ) (limits : Limits) (bytes : List ℕ) (o : Office) →
    None ≢ closing_by number (answers_answer number late limits bytes o).outcome
answers_named number late limits bytes o =
    let read = reads bytes limits late in
    answered number (work_of number read.tuples o) bytes read.tuples read.refused o

-- and an import
pub import_named : (number late : ℕ) (limits : Limits) (bytes : List ℕ) (o : Office) →
    None ≢ closing_by number (import_answer number late limits bytes o).outcome
import_named number late limits bytes o =
    let read = reads bytes limits late in
    recorded number (record_of o number) (new_import number late limits bytes o) bytes o
    (imported number (work_of number read.tuples o) bytes read.tuples read.refused o)
