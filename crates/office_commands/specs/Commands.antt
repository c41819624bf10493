-- The table of commands: what each is to write, how it ends, and what is kept then.
use Rattle.std.specs.Prelude.{ℕ, Bool, List, [], length, Option, Some, None}
use Rattle.road_time.specs.declared.road.Tuple.{Tuple}
use Rattle.road_time.specs.declared.road.Notice.{Notice}
use Rattle.road_time.specs.declared.day.Limits.{Limits}
use Rattle.road_time.specs.Lines.{lines_of}
use Rattle.road_time.specs.Reads.{reads}
use Rattle.road_time.specs.Day.{notices}
use Rattle.road_time.specs.Log.{log_of}
use Rattle.road_time.specs.Tariffs.{tariffs_text}
use Rattle.office_reports.specs.AccidentLog.{log_text}
use Rattle.office_reports.specs.Statements.{day_report, vehicle_report}
use Rattle.office_reports.specs.Exports.{export_report}
use Rattle.office_reports.specs.DayLists.{list_text}
use Rattle.office_reports.specs.Charges.{charges_report}
use Rattle.road_time.specs.History.{paid}
use Rattle.keep_office.specs.Office.{Office, last_day}
use Rattle.keep_office.specs.Kept.{with_tariff_of}
use Rattle.day_import.specs.Imports.{import_answer, answers_answer}
use Rattle.day_import.specs.Imports as day
use Rattle.day_import.specs.declared.outcomes.Outcome.{Outcome}
use Rattle.day_import.specs.declared.outcomes.Outcome.TheVariants as outcome
use Rattle.day_past.specs.Imports.{PastAnswer, past_answer}
use Rattle.day_past.specs.declared.outcomes.PastOutcome.{PastOutcome}
use Rattle.day_past.specs.declared.outcomes.PastOutcome.TheVariants as pasts
use Rattle.office_words.specs.declared.command.Command.{Command}
use Rattle.office_words.specs.declared.command.Command.TheVariants as command
use Rattle.tuples_text.specs.declared.cause.Cause.{Cause}
use Rattle.office_commands.specs.declared.closing.Closing.{Closing}
use Rattle.office_commands.specs.declared.closing.Closing.TheVariants.{Answered, Stored, Already, TariffPut, PastStored}
use Rattle.office_commands.specs.declared.closing.Closing.TheVariants.{PastAlready, Words, Refused, PastRefused}
use Rattle.office_commands.specs.declared.closing.Closing.TheVariants.{DayPassed, DiffersDay, NoDay, PastLate, PastKept}
use Rattle.office_commands.specs.declared.closing.Closing.TheVariants.{DiffersPast, ReadFault, KeeperFault, NoMemory}
use Rattle.office_commands.specs.declared.closing.Closing.TheVariants.{Listed}
use Rattle.office_commands.specs.declared.closing.Closing.TheVariants.{Checked as CheckedDay}
use Rattle.day_reading.specs.Checked.{Checked, checked, named_of, refusals_text}
use Rattle.office_words.specs.declared.command.Comparison.{Comparison}
use Rattle.office_words.specs.declared.command.DayRun.{DayRun}
use Rattle.office_words.specs.declared.command.Recomputing.TheVariants.{Plainly}
use Rattle.office_words.specs.declared.command.Size.{Size}
use Rattle.tuples_traffic.specs.Traffic.{file_of}
use Rattle.office_commands.specs.Traffic.{plan_from_seed, rehearsed_record, rehearsed}
use Rattle.office_commands.specs.Days.{recomputed, refusal_of}
use Rattle.office_commands.specs.AnyOrder.{compared_in, told_text}

-- what a command is to write before its closing line, that line, if it has one, and what is kept then
pub record Answer : Type 0 where
  pub text : List ℕ
  pub closing : Option Closing
  pub office : Office

-- a text alone, where nothing that is kept changes
abbrev pub text_alone : List ℕ → Office → Answer
text_alone text o = record { text = text; closing = None; office = o }

-- a closing line alone, where nothing that is kept changes
abbrev pub closed : Closing → Office → Answer
closed c o = record { text = []; closing = Some c; office = o }

-- the closing line of a day that is imported or answered; that its sink failed has none
abbrev pub closing_by : ℕ → Outcome → Option Closing
closing_by number (outcome.Stored r) = Some (Stored number r.tuples r.notices r.total)
closing_by number (outcome.Already r) = Some (Already number r.tuples r.notices r.total)
closing_by number (outcome.Answered r) = Some (Answered number r.tuples r.notices)
closing_by number (outcome.Refused line cause) = Some (Refused line cause)
closing_by number (outcome.DayPassed last) = Some (DayPassed number last)
closing_by number (outcome.Differs kept found) = Some (DiffersDay number kept found)
closing_by number outcome.ReadFault = Some ReadFault
closing_by number outcome.WriteFault = None
closing_by number outcome.KeeperFault = Some KeeperFault
closing_by number outcome.NoMemory = Some NoMemory

-- what importing or answering a day answers, as a command's row
abbrev pub row_by : ℕ → day.DayAnswer → Answer
row_by number a = record { text = a.text; closing = closing_by number a.outcome; office = a.office }

-- the command `answers DAY`
abbrev pub answers_command : Limits → DayRun → List ℕ → Office → Answer
answers_command limits run bytes o = row_by run.day (answers_answer run.day run.late limits bytes o)

-- the command `import DAY`
abbrev pub import_command : Limits → DayRun → List ℕ → Office → Answer
import_command limits run bytes o = row_by run.day (import_answer run.day run.late limits bytes o)

-- the notices of a day after what an office keeps
abbrev pub notices_of_day : ℕ → List Tuple → Office → List Notice
notices_of_day number tuples o = notices tuples o.tariffs number (paid o.rows)

-- a command that asks for a whole day ends at a refused line
abbrev pub unless_refused : Option (ℕ × Cause) → Answer → Answer
unless_refused None answer = answer
unless_refused (Some refused) answer = closed (Refused refused.0 refused.1) answer.office

-- the accidents of a day
abbrev pub accidents_of : List Tuple → Office → Answer
accidents_of tuples o = text_alone (log_text (log_of tuples)) o

-- how notices compare with lines, in any order within a second or not, where so many differences are told
abbrev pub comparison_by : Bool → ℕ → List Notice → List (List ℕ) → Office → Answer
comparison_by any_order show wanted lines o = record {
  text = told_text any_order show wanted lines;
  closing = Some (compared_in any_order wanted lines);
  office = o;
}

-- how the notices of a day compare with lines
abbrev pub comparison_of : Comparison → List Tuple → List (List ℕ) → Office → Answer
comparison_of asked tuples lines o =
    comparison_by asked.any_order asked.show (notices_of_day asked.day tuples o) lines o

-- the tuples of a day that is compared
abbrev pub compared_tuples : Limits → Comparison → List ℕ → List Tuple
compared_tuples limits asked bytes = (reads bytes (recomputed asked.how limits) asked.late).tuples

-- the commands `validate DAY` and `audit DAY`
abbrev pub compare_command : Limits → Comparison → List ℕ → List ℕ → Office → Answer
compare_command limits asked bytes aside o =
    unless_refused (refusal_of (reads bytes (recomputed asked.how limits) asked.late).refused)
    (comparison_of asked (compared_tuples limits asked bytes) (lines_of aside) o)

-- the command `accidents`
abbrev pub accidents_command : Limits → ℕ → List ℕ → Office → Answer
accidents_command limits late bytes o =
    unless_refused (refusal_of (reads bytes (recomputed Plainly limits) late).refused)
    (accidents_of (reads bytes (recomputed Plainly limits) late).tuples o)

-- a report of a day, which has none where the day is not kept
abbrev pub report_command : ℕ → Option (List ℕ) → Office → Answer
report_command number None o = closed (NoDay number) o
report_command number (Some text) o = text_alone text o

-- the command `day DAY`
abbrev pub day_command : ℕ → Office → Answer
day_command number o = report_command number (day_report number o) o

-- the command `export DAY`
abbrev pub export_command : ℕ → Office → Answer
export_command number o = report_command number (export_report number o) o

-- the command `vehicle VID FROM TO`
abbrev pub vehicle_command : ℕ → ℕ → ℕ → Office → Answer
vehicle_command vid from to o = text_alone (vehicle_report vid from to o) o

-- the command `tariff XWAY CROWD SPEED FACTOR`
abbrev pub tariff_command : ℕ → ℕ → ℕ → ℕ → Office → Answer
tariff_command xway crowd speed factor o = record {
  text = [];
  closing = Some (TariffPut xway crowd speed factor);
  office = with_tariff_of xway (record { crowd = crowd; speed = speed; factor = factor }) o;
}

-- the command `tariffs`
abbrev pub tariffs_command : Office → Answer
tariffs_command o = text_alone (tariffs_text o.tariffs) o

-- the closing line of a history that is kept, or is not
abbrev pub past_closing : ℕ → PastOutcome → Closing
past_closing base (pasts.Stored r) = PastStored base r.rows
past_closing base (pasts.Already r) = PastAlready base r.rows
past_closing base (pasts.Row line cause) = PastRefused line cause
past_closing base (pasts.PastLate last) = PastLate last
past_closing base (pasts.OtherBase kept) = PastKept kept
past_closing base (pasts.Differs kept found) = DiffersPast base kept found
past_closing base pasts.ReadFault = ReadFault
past_closing base pasts.KeeperFault = KeeperFault
past_closing base pasts.NoMemory = NoMemory

-- what keeping a history answers, as a command's row
abbrev pub past_by : ℕ → PastAnswer → Answer
past_by base a = record { text = []; closing = Some (past_closing base a.outcome); office = a.office }

-- the command `past BASE`
abbrev pub history_command : Limits → ℕ → List ℕ → Office → Answer
history_command limits base bytes o = past_by base (past_answer base limits bytes o)

-- the command `generate SEED`
abbrev pub generate_command : ℕ → Size → Office → Answer
generate_command seed size o = text_alone (file_of (plan_from_seed seed size)) o

-- the command `rehearse SEED`
abbrev pub rehearse_command : ℕ → Size → DayRun → Office → Answer
rehearse_command seed size run o = closed (rehearsed (rehearsed_record run.day (plan_from_seed seed size))) o

-- the command `days`
abbrev pub days_command : Office → Answer
days_command o = record { text = list_text o.days; closing = Some (Listed (length o.days) (last_day o)); office = o }

-- the command `charges FROM TO`
abbrev pub charges_command : ℕ → ℕ → Office → Answer
charges_command from to o = text_alone (charges_report from to o) o

-- what is said of a day whose lines were checked: its refused lines, the first 1,000, and how many are good and refused
abbrev pub check_answer : ℕ → Checked → Office → Answer
check_answer number c o = record {
  text = refusals_text (named_of c);
  closing = Some (CheckedDay number (length c.kept) (length c.refusals));
  office = o;
}

-- the command `check DAY`
abbrev pub check_command : Limits → ℕ → ℕ → List ℕ → Office → Answer
check_command limits number late bytes o = check_answer number (checked limits late (lines_of bytes)) o

-- what words ask, by the command that they mean, over the bytes of the source, those of the aside, and what is kept
abbrev pub office_answer : Limits → List ℕ → List ℕ → Office → Option Command → Answer
office_answer limits bytes aside o None = closed Words o
office_answer limits bytes aside o (Some (command.Answers run)) = answers_command limits run bytes o
office_answer limits bytes aside o (Some (command.Import run)) = import_command limits run bytes o
office_answer limits bytes aside o (Some (command.Compare asked)) = compare_command limits asked bytes aside o
office_answer limits bytes aside o (Some (command.Past base)) = history_command limits base bytes o
office_answer limits bytes aside o (Some (command.Day number)) = day_command number o
office_answer limits bytes aside o (Some (command.Vehicle vid from to)) = vehicle_command vid from to o
office_answer limits bytes aside o (Some (command.Accidents late)) = accidents_command limits late bytes o
office_answer limits bytes aside o (Some (command.Export number)) = export_command number o
office_answer limits bytes aside o (Some (command.Tariff xway crowd speed factor)) =
    tariff_command xway crowd speed factor o
office_answer limits bytes aside o (Some command.Tariffs) = tariffs_command o
office_answer limits bytes aside o (Some (command.Generate seed size)) = generate_command seed size o
office_answer limits bytes aside o (Some (command.Rehearse seed size run)) = rehearse_command seed size run o
office_answer limits bytes aside o (Some command.Days) = days_command o
office_answer limits bytes aside o (Some (command.Charges from to)) = charges_command from to o
office_answer limits bytes aside o (Some (command.Check number late)) = check_command limits number late bytes o
