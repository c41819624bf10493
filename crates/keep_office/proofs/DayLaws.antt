-- A day after an office began anew.
use Rattle.std.proofs.Common.{◌≡◌, ℕ, ◌-◌, ◌≤◌, List, [], ◌∷◌, ◌++◌, length, refl, ap, ◌∙◌, arith}
use Rattle.std.specs.List.{AllByRecursion}
use Rattle.std.proofs.lemmas.List.Elements.{recursion_from_All}
use Rattle.road_time.specs.declared.road.Notice.{Notice}
use Rattle.road_time.specs.declared.road.Notice.TheVariants.{Spent as SpentNotice}
use Rattle.road_time.specs.declared.road.Tuple.{Tuple}
use Rattle.road_time.specs.declared.road.Tuple.TheVariants.{Report as ReportTuple, Balance, Spent, Travel}
use Rattle.road_time.specs.Fits.{IsValid}
use Rattle.road_time.specs.History.{paid}
use Rattle.road_time.specs.Rows.{rows_of}
use Rattle.road_time.specs.Sights.{Sight, moments, moments_after}
use Rattle.road_time.specs.Stays.{is_told}
use Rattle.road_time.specs.Text.{out}
use Rattle.road_time.specs.Tolls.{StretchTold}
use Rattle.road_time.specs.Day.{rules, told_by, answer_by, notices_by, notices, total}
use Rattle.keep_office.specs.declared.kept.DayRecord.{DayRecord}
use Rattle.road_digest.specs.Digests.{digest_of}
use Rattle.keep_office.specs.Kept.{kept_record, seal_of}
use Rattle.keep_office.specs.Office.{Office, IsSound, last_day}
use Rattle.keep_office.specs.Renewed.{renewed}
use Rattle.keep_office.specs.RenewalLaws.{DayLaw}
use Rattle.keep_office.proofs.RenewalHistoryLaws.{answers_law}

module _ (finding : Sight → StretchTold) (number : ℕ) (kept other : ℕ → ℕ → ℕ → ℕ)
    (same : (day vid xway : ℕ) → day ≤ 69 → kept (number - day) vid xway ≡ other (number - day) vid xway) where
  -- the same is answered to a tuple
  one_answer : (before : List Tuple) (x : Tuple) → IsValid x →
      answer_by finding number kept (before, x) ≡ answer_by finding number other (before, x)
  one_answer before (ReportTuple r) v = refl
  one_answer before (Balance time vid qid) v = refl
  one_answer before (Spent time vid xway qid day) v =
      ap (λ n. SpentNotice time qid n ∷ []) (same day vid xway (omega (arith, v.5)))
  one_answer before (Travel time) v = refl

  -- and so to all of them
  all_answers : (before rest : List Tuple) → AllByRecursion IsValid rest →
      notices_by finding number kept (moments_after before rest)
      ≡ notices_by finding number other (moments_after before rest)
  all_answers before [] h = refl
  all_answers before (x ∷ xs) h =
      ap (λ a. (told_by finding (before, x) ++ a) ++ notices_by finding number kept
      (moments_after (before ++ x ∷ []) xs)) (one_answer before x h.0)
      ∙ ap (λ ns. (told_by finding (before, x) ++ answer_by finding number other (before, x)) ++ ns)
      (all_answers (before ++ x ∷ []) xs h.1)

-- the record of a day whose notices are these
abbrev record_by : ℕ → List ℕ → List Tuple → Office → List Notice → DayRecord
record_by number bytes day o told =
    record {
      day = number;
      digest = digest_of bytes;
      bytes = length bytes;
      tuples = length day;
      notices = length told;
      notices_digest = digest_of (out told);
      tariffs = seal_of o.tariffs;
      total = total day o.tariffs day;
    }

pub day_law : DayLaw
day_law base o sound low later number bytes day from fit =
    ap (record_by number bytes day o)
    (all_answers (rules day o.tariffs) number (paid (renewed base o).rows) (paid o.rows)
    (λ d vid xway few. answers_law base o sound low later (number - d) vid xway (omega (arith, from, low, few))) [] day
    (recursion_from_All IsValid day fit.valid))
