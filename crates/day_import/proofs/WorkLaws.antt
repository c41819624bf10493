-- What a day's work comes to as a record and its amounts.
use Rattle.std.proofs.Common.{◌≡◌, ◌<◌, ◌≤◌, ◌^◌, ℕ, List, [], length, Option, Some, sym, ap, subst, ◌∙◌, arith}
use Rattle.road_time.specs.declared.tariff.TheConstants.{GREATEST_TOLL}
use Rattle.road_time.specs.declared.road.Tuple.{Tuple}
use Rattle.road_time.specs.declared.road.Notice.{Notice}
use Rattle.road_time.specs.declared.day.SpentRow.{SpentRow}
use Rattle.road_time.specs.declared.day.Limits.{Limits}
use Rattle.road_time.specs.Fits.{Fit, IsLimits}
use Rattle.road_time.specs.Rates.{Tariffs}
use Rattle.road_time.specs.Sights.{moments, Sight}
use Rattle.road_time.specs.Tolls.{StretchTold}
use Rattle.road_time.specs.Day.{ChargedToll, given, charges_by, sum_of}
use Rattle.road_time.specs.Rows.{rows_from}
use Rattle.road_time.specs.Text.{out}
use Rattle.road_time.proofs.BoundLaws.{total_few}
use Rattle.road_time.proofs.SightLaws.{length-moments}
use Rattle.road_time.proofs.RowLaws.{are_rows}
use Rattle.road_time.proofs.SumLaws.{rows_add_up}
use Rattle.road_digest.specs.declared.digest.Digest.{Digest}
use Rattle.road_digest.specs.Digests.{digest_of}
use Rattle.road_time.specs.History.{paid}
use Rattle.keep_office.specs.Office.{Office, RowsRise, sum_of_rows}
use Rattle.std.specs.List.{AllByRecursion}
use Rattle.keep_office.specs.Kept.{IsDayPut}
use Rattle.keep_office.proofs.HistoryLaws.{day_rows_law}
use Rattle.day_floor.specs.Answers.{PaidHistory}
use Rattle.day_floor.specs.Closes.{IsClosed}
use Rattle.day_floor.specs.TextDigests.{IsDigestOf}
use Rattle.day_floor.proofs.AnswerLaws.{notices_few, notices_exact}
use Rattle.day_reading.specs.Days.{IsShortDay}
use Rattle.day_import.specs.WorkedDays.{AreRightFor}
use Rattle.day_import.specs.declared.day.WorkedDay.{WorkedDay}
use Rattle.day_import.specs.Imports.{work_of, work_by, worked_record, worked_sums}
use Rattle.day_import.specs.Stages.{run_record, run_sums, CanPut}

-- a day that was worked may be put, whatever was found for it
pub run_fits : (number : ℕ) (limits : Limits) (found : List (ℕ × StretchTold)) (history : PaidHistory)
    (day : List Tuple)
    (run : WorkedDay) → IsLimits limits → Fit day limits → IsShortDay run.end → run.tuples ≡ length day
    → IsClosed run.closed number (given found) number history day → ((s : Sight) → (given found s).toll ≤ GREATEST_TOLL)
    → CanPut number run
run_fits number limits found history day run within fit short count closed few =
    let cs : List ChargedToll = charges_by (given found) (moments day) in
    let rows = are_rows cs number in
    let told_few = notices_few (given found) number history (moments day) closed.told closed.told_are in
    let most = total_few (given found) few day in
    let n = length-moments [] day in
    let lines = fit.lines in
    let all = within.lines in
    record {
      short = short;
      tuples = omega (arith, count, lines, all);
      notices = omega (arith, closed.count, told_few, n, lines, all);
      total = omega (arith, closed.total, most, lines, all);
      of_day = subst (λ (rs : List SpentRow). AllByRecursion (λ r. r.day ≡ number) rs) (sym closed.rows) rows.of_day;
      above_zero =
          subst (λ (rs : List SpentRow). AllByRecursion (λ r. 0 < r.tolls) rs) (sym closed.rows) rows.none_zero;
      rise = subst RowsRise (sym closed.rows) (day_rows_law _ number rows.of_day rows.in_order);
      sum = ap (λ (rs : List SpentRow). sum_of_rows rs) closed.rows ∙ (rows_add_up number cs ∙ sym closed.total);
    }

-- what may be put may be put under its record
pub record_fits : (number bytes : ℕ) (digest text : Digest) (run : WorkedDay) (tariffs : Tariffs) → bytes < 2 ^ 63 →
    CanPut number run → IsDayPut (run_record number bytes digest text run tariffs) run.closed.rows
record_fits number bytes digest text run tariffs small can = record {
  bytes = small;
  tuples = can.tuples;
  notices = can.notices;
  total = can.total;
  of_day = can.of_day;
  above_zero = can.above_zero;
  rise = can.rise;
  sum = can.sum;
}

module _ (number : ℕ) (found : List (ℕ × StretchTold)) (day : List Tuple) (o : Office) (run : WorkedDay)
    (closed : IsClosed run.closed number (given found) number (Some (paid o.rows)) day) where
  -- the notices of a day that was worked
  told_is : closed.told ≡ (work_by found number day o).told
  told_is = notices_exact (given found) number (paid o.rows) (moments day) closed.told closed.told_are

  -- the record of a day that was worked is that of its work
  pub record_is : (bytes : List ℕ) (n : ℕ) (digest text : Digest) (tariffs : Tariffs) → run.tuples ≡ length day →
      n ≡ length bytes → digest ≡ digest_of bytes → run.closed.notices_digest ≡ Some text → tariffs ≡ o.tariffs
      → run_record number n digest text run tariffs ≡ worked_record (work_by found number day o) number bytes day o
  record_is bytes n digest text tariffs count size hash taken under =
      let ns : List Notice = (work_by found number day o).told in
      let many : run.closed.notices ≡ length ns = closed.count ∙ ap length told_is in
      let of_told : text ≡ digest_of (out closed.told) =
      subst (λ (d : Option Digest). IsDigestOf d (out closed.told)) taken closed.digest in
      let of_text : text ≡ digest_of (out ns) = of_told ∙ ap (λ ms. digest_of (out ms)) told_is in
      let sum : run.closed.total ≡ sum_of (work_by found number day o).charged = closed.total in
      cc

  -- what a day that was worked comes to is that of its work
  pub sums_are : (bytes : List ℕ) (n : ℕ) → run.tuples ≡ length day → n ≡ length bytes →
      run_sums n run ≡ worked_sums (work_by found number day o) bytes day
  sums_are bytes n count size =
      let many : run.closed.notices ≡ length (work_by found number day o).told = closed.count ∙ ap length told_is in
      let sum : run.closed.total ≡ sum_of (work_by found number day o).charged = closed.total in
      cc

  -- the amounts are those of the charges
  pub rows_are : run.closed.rows ≡ rows_from number (work_by found number day o).charged
  rows_are = closed.rows

-- the work by findings that are right for a day is its work by the rules
pub right_work : (number : ℕ) (found : List (ℕ × StretchTold)) (day : List Tuple) (o : Office) →
    AreRightFor found day o.tariffs number → work_by found number day o ≡ work_of number day o
right_work number found day o right =
    let told = right.notices_are (paid o.rows) in
    let charged = right.charges_are in
    cc
