-- what a day stores may be put
use Rattle.std.proofs.Common.{ℕ, ◌*◌, ◌≤◌, List, [], ◌∷◌, ◌++◌, length, Option, Some, None, arith, length-append}
use Rattle.road_time.specs.declared.road.Tuple.TheVariants.{Report as ReportTuple, Balance, Spent, Travel}
use Rattle.road_time.specs.declared.road.Report.{Report}
use Rattle.road_time.specs.declared.road.Notice.{Notice}
use Rattle.road_time.specs.declared.road.Notice.TheVariants.{Toll as TollNotice}
use Rattle.road_time.specs.Sights.{Moment, moments, Sight, sights_of, previous}
use Rattle.road_time.specs.Stays.{is_told}
use Rattle.road_time.specs.Tolls.{StretchTold}
use Rattle.road_time.specs.Day.{rules, told_if, alert_of, notices_of, told_by, answer_by, notices_by, charges}
use Rattle.road_time.proofs.SightLaws.{length-moments}
use Rattle.road_time.proofs.BoundLaws.{rules_few, total_few}
use Rattle.road_time.proofs.RowLaws.{are_rows}
use Rattle.road_time.proofs.SumLaws.{rows_add_up}
use Rattle.road_time.specs.History.{paid}
use Rattle.keep_office.specs.Laws.{StoredLaw}
use Rattle.keep_office.proofs.HistoryLaws.{day_rows_law}

-- an alert is one notice at most
alert_few : (r : Report) (o : Option ℕ) → length (alert_of r o) ≤ 1
alert_few r None = omega arith
alert_few r (Some seg) = omega arith

module _ (finding : Sight → StretchTold) (number : ℕ) (kept : ℕ → ℕ → ℕ → ℕ) where
  -- what is told to a sight is two notices at most
  told_few : (o : Option Sight) → length (notices_of finding o) ≤ 2
  told_few None = omega arith
  told_few (Some s) = let one = alert_few s.1 (finding s).alert in
      omega (arith, one, length-append (alert_of s.1 (finding s).alert) (toll_of_sight s))
    where
      toll_of_sight : Sight → List Notice
      toll_of_sight s = TollNotice s.1.vid s.1.time (finding s).lav (finding s).toll ∷ []

  -- a moment causes two notices at most
  moment_few : (m : Moment) → length (told_by finding m ++ answer_by finding number kept m) ≤ 2
  moment_few (before, ReportTuple r) =
      let few = told_few (told_if (is_told (previous (sights_of before r.vid)) r) (length before, r)) in
      omega (arith, few, length-append (told_by finding (before, ReportTuple r)) [])
  moment_few (before, Balance time vid qid) = omega arith
  moment_few (before, Spent time vid xway qid day) = omega arith
  moment_few (before, Travel time) = omega arith

  -- moments cause two notices each at most
  notices_few : (ms : List Moment) → length (notices_by finding number kept ms) ≤ 2 * length ms
  notices_few [] = omega arith
  notices_few (m ∷ ms) =
      let one = moment_few m in
      let rest = notices_few ms in
      omega (
        arith,
        one,
        rest,
        length-append (told_by finding m ++ answer_by finding number kept m)
            (notices_by finding number kept ms),
      )

pub stored_law : StoredLaw
stored_law number bytes day o fit small =
    let cs = charges day o.tariffs (moments day) in
    let rows = are_rows cs number in
    let few = notices_few (rules day o.tariffs) number (paid o.rows) (moments day) in
    let many : length day ≤ 16000000 = fit.lines in
    let n = length-moments [] day in
    let most = total_few (rules day o.tariffs) (rules_few day o.tariffs) day in
    record {
      bytes = small;
      tuples = omega (arith, many);
      notices = omega (arith, few, many, n);
      total = omega (arith, most, many);
      of_day = rows.of_day;
      above_zero = rows.none_zero;
      rise = day_rows_law _ number rows.of_day rows.in_order;
      sum = rows_add_up number cs;
    }
