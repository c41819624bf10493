-- the lines of a fit list are read as that list
use Rattle.std.proofs.Common.{◌≡◌, ℕ, ◌+◌, ◌≤◌, ◌<◌, ◌==◌, ◌&&◌, Bool, true, false, cond, not, List, [], ◌∷◌, ◌++◌}
use Rattle.std.proofs.Common.{length, map, max, refl, sym, ap, ◌∙◌, arith, None, nat_le, nat_lt}
use Rattle.std.specs.List.{AllByRecursion, fold, list_any}
use Rattle.std.proofs.lemmas.List.{append_assoc, append-nil, length-map, length_push, map-append}
use Rattle.std.proofs.lemmas.List.Elements.{recursion_from_All}
use Rattle.std.proofs.lemmas.List.Sums.{sum_by_push}
use Rattle.std.proofs.lemmas.Bool.{and_from, cond-true, cond-false, eq-eqb}
use Rattle.road_time.specs.declared.road.Tuple.{Tuple}
use Rattle.road_time.specs.declared.road.Tuple.TheVariants.{Report as ReportTuple, Balance, Spent, Travel}
use Rattle.road_time.specs.declared.road.Report.{Report}
use Rattle.road_time.specs.declared.day.Limits.{Limits}
use Rattle.road_time.specs.Clock.{minute_of}
use Rattle.road_time.specs.Tuples.{reports, time_of}
use Rattle.road_time.specs.Notes.{has, distinct}
use Rattle.road_time.specs.Order.{greatest_time}
use Rattle.road_time.specs.Fits.{Fit, IsValid, vehicles_seen, reports_in_minute}
use Rattle.road_time.specs.Reads.{report_fault, vehicle_fault, admit_fault, line_fault, reading_at}
use Rattle.road_time.specs.Reads.{accepts_after, accepts, reads}
use Rattle.road_time.specs.Text.{tuple_numbers, tuple_text, lines_text}
use Rattle.road_time.proofs.EachLaws.{joined, weakened}
use Rattle.road_time.proofs.NoteLaws.{distinct_push}
use Rattle.road_time.proofs.NumberLaws.{text_length}
use Rattle.road_time.proofs.OrderLaws.{none_later, by_time_same}
use Rattle.road_time.proofs.AllowedLaws.{reports_push, fit_left}
use Rattle.road_time.proofs.TextLaws.{tuple_written, fifteen, lines_back, line_form, tuples_back}

-- the lines of a fit list

greatest_from : (t s : ℕ) (xs : List Tuple) → s ≤ t → AllByRecursion (λ y. time_of y ≤ t) xs →
    fold (λ u x. max u (time_of x)) s xs ≤ t
greatest_from t s [] l h = l
greatest_from t s (x ∷ xs) l h = greatest_from t (max s (time_of x)) xs (omega (arith, h.0)) h.1

seen_before : (vs : List ℕ) (v limit : ℕ) (b : Bool) → has (distinct vs) v ≡ b →
    length (cond b (distinct vs) (distinct vs ++ v ∷ [])) ≤ limit →
    (not b && nat_le limit (length (distinct vs))) ≡ false
seen_before vs v limit true h l = refl
seen_before vs v limit false h l =
    leb-under limit (length (distinct vs)) (omega (arith, length_push (distinct vs) v, l))
  where
    leb-under : (a b : ℕ) → b < a → nat_le a b ≡ false
    leb-under a b h = grind arith

none_for : (limits : Limits) (day : List Tuple) (r : Report) → Fit (day ++ ReportTuple r ∷ []) limits →
    report_fault limits day r ≡ None
none_for limits day r f =
    cond-false (nat_le 4 (reports_in_minute day r.vid (minute_of r.time))) _ _
    (under 4 (reports_in_minute day r.vid (minute_of r.time)) few)
    ∙ cond-false
    (not (list_any (λ v. v == r.vid) (vehicles_seen day)) && nat_le limits.vehicles (length (vehicles_seen day))) _
    _ (seen_before (map (λ s. s.vid) (reports day)) r.vid limits.vehicles (has (vehicles_seen day) r.vid) refl room)
  where
    under : (a b : ℕ) → b < a → nat_le a b ≡ false
    under a b h = grind arith

    counts : ◌≡◌ {A = ℕ} (cond {A = ℕ} (r.vid == r.vid && minute_of r.time == minute_of r.time) 1 0) 1
    counts = cond-true (r.vid == r.vid && minute_of r.time == minute_of r.time) 1 0
        (and_from (r.vid == r.vid) (minute_of r.time == minute_of r.time) (eq-eqb r.vid r.vid refl)
        (eq-eqb (minute_of r.time) (minute_of r.time) refl))

    few : reports_in_minute day r.vid (minute_of r.time) < 4
    few =
        let all =
        rw (
          reports_push day r,
          sum_by_push (λ s. cond (s.vid == r.vid && minute_of s.time == minute_of r.time) 1 0)
              (reports day) r,
          counts,
        ) at (f.rare r.vid (minute_of r.time)) in
        omega (arith, all)

    room : length (cond (has (vehicles_seen day) r.vid) (vehicles_seen day) (vehicles_seen day ++ r.vid ∷ []))
        ≤ limits.vehicles
    room = rw (
      reports_push day r,
      map-append (λ s. s.vid) (reports day) (r ∷ []),
      distinct_push
          (map (λ s. s.vid) (reports day)) r.vid,
    ) at f.vehicles

no_fault : (limits : Limits) (day : List Tuple) (x : Tuple) → Fit (day ++ x ∷ []) limits →
    vehicle_fault limits day x ≡ None
no_fault limits day (ReportTuple r) f = none_for limits day r f
no_fault limits day (Balance time vid qid) f = refl
no_fault limits day (Spent time vid xway qid of_day) f = refl
no_fault limits day (Travel time) f = refl

-- the next tuple of a fit list is admitted
pub admits : (limits : Limits) (late : ℕ) (day : List Tuple) (x : Tuple) → Fit (day ++ x ∷ []) limits →
    admit_fault limits late day x ≡ None
admits limits late day x f =
    let bound =
    greatest_from (time_of x) 0 day (omega arith)
    (weakened (λ y. AllByRecursion (λ z. time_of y ≤ time_of z) (x ∷ [])) (λ y. time_of y ≤ time_of x)
    (λ y h. h.0) day (none_later day (x ∷ []) f.in_order)) in
    cond-false (nat_lt (time_of x + late) (greatest_time day)) _ _
    (not_under (time_of x + late) (greatest_time day) (omega (arith, bound))) ∙ no_fault limits day x f
  where
    not_under : (a b : ℕ) → b ≤ a → nat_lt a b ≡ false
    not_under a b h = grind arith

line_short : (x : Tuple) → IsValid x → nat_lt 200 (length (tuple_text x)) ≡ false
line_short x v = let l = text_length (tuple_numbers x) (tuple_written x v) in
    not_under 200 (length (tuple_text x)) (omega (arith, l, fifteen x))
  where
    not_under : (a b : ℕ) → b ≤ a → nat_lt a b ≡ false
    not_under a b h = grind arith

line_admits : (limits : Limits) (late : ℕ) (before : List Tuple) (x : Tuple) → AllByRecursion IsValid before → IsValid x
    → Fit (before ++ x ∷ []) limits → line_fault limits late (map tuple_text before) (tuple_text x) ≡ None
line_admits limits late before x h v f =
    let room : length before < limits.lines = omega (arith, length_push before x, f.lines) in
    cond-false (nat_lt 200 (length (tuple_text x))) _ _ (line_short x v)
    ∙ cond-false (nat_le limits.lines (length (map tuple_text before))) _ _
    (under limits.lines (length (map tuple_text before)) (omega (arith, room, length-map before tuple_text)))
    ∙ rw (tuples_back before h, line_form x v) (admits limits late before x f)
  where
    under : (a b : ℕ) → b < a → nat_le a b ≡ false
    under a b h = grind arith

accepts_back : (limits : Limits) (late : ℕ) (before rest : List Tuple) → AllByRecursion IsValid before →
    AllByRecursion IsValid rest → Fit (before ++ rest) limits →
    accepts_after limits late (map tuple_text before) (map tuple_text rest)
    ≡ record { tuples = before ++ rest; refused = None }
accepts_back limits late before [] h g f = rw (tuples_back before h, append-nil before) refl
accepts_back limits late before (x ∷ xs) h g f =
    let parts : (before ++ x ∷ []) ++ xs ≡ before ++ x ∷ xs = append_assoc before (x ∷ []) xs in
    let first = fit_left (before ++ x ∷ []) xs limits (rw parts f) in
    let rest = accepts_back limits late (before ++ x ∷ []) xs (joined IsValid before (x ∷ []) h (g.0, tt)) g.1
    (rw parts f) in
    ap (λ o. reading_at (map tuple_text before) o
    (accepts_after limits late (map tuple_text before ++ tuple_text x ∷ []) (map tuple_text xs)))
    (line_admits limits late before x h g.0 first)
    ∙ ap (λ ls. accepts_after limits late ls (map tuple_text xs)) (sym (map-append tuple_text before (x ∷ []))) ∙ rest
    ∙ ap (λ ts. record { tuples = ts; refused = None }) parts

-- the lines of a fit list read whole as that list
pub reads_back : (tuples : List Tuple) (limits : Limits) (late : ℕ) → Fit tuples limits →
    reads (lines_text tuples) limits late ≡ record { tuples = tuples; refused = None }
reads_back tuples limits late f =
    let valid = recursion_from_All IsValid tuples f.valid in
    let whole : accepts (lines_text tuples) limits late ≡ record { tuples = tuples; refused = None } =
    ap (accepts_after limits late []) (lines_back tuples valid) ∙ accepts_back limits late [] tuples tt valid f in
    rw whole (ap (λ ts. record { tuples = ts; refused = None }) (by_time_same tuples f.in_order))
