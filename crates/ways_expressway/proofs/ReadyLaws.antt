-- what the condition of a run says of the next report
use Rattle.std.proofs.Common.{◌≡◌, ℕ, ◌+◌, ◌≤◌, ◌==◌, ◌&&◌, Bool, true, false, cond, List, [], ◌∷◌, ◌++◌, length, map}
use Rattle.std.proofs.Common.{refl, sym, ap, ◌∙◌, arith, subst}
use Rattle.std.specs.List.{filter, count_by}
use Rattle.std.proofs.lemmas.Bool.{and_from}
use Rattle.road_time.proofs.SameLaws.{number_same}
use Rattle.std.proofs.lemmas.List.{map-append}
use Rattle.std.proofs.lemmas.List.Elements.{recursion_from_All}
use Rattle.std.proofs.lemmas.List.Sums.{sum_by-cons, sum_by_push}
use Rattle.road_time.specs.declared.road.Tuple.{Tuple}
use Rattle.road_time.specs.declared.road.Tuple.TheVariants.{Report as ReportTuple}
use Rattle.road_time.specs.declared.road.Report.{Report}
use Rattle.road_time.specs.declared.day.TheConstants.Limits.{DAY}
use Rattle.road_time.specs.Clock.{minute_of}
use Rattle.road_time.specs.Tuples.{reports}
use Rattle.road_time.specs.Notes.{Note, note_of, distinct}
use Rattle.road_time.specs.Fits.{Fit, IsDay, IsValid, IsReport}
use Rattle.road_time.specs.Tolls.{notes_of}
use Rattle.road_time.proofs.EachLaws.{right_part}
use Rattle.road_time.proofs.FitLaws.{same_vids}
use Rattle.ways_expressway.specs.SpeedsStand.{CanNote}
use Rattle.ways_expressway.specs.declared.lane_event.LaneEvent.{LaneEvent}
use Rattle.ways_expressway.specs.declared.lane_event.LaneEvent.TheVariants.{Seen}
use Rattle.ways_expressway.specs.Events.{seen}
use Rattle.ways_expressway.specs.Ready.{CanRun}
use Rattle.ways_expressway.proofs.StepLaws.{seen_push}

-- reports as tuples
abbrev pub as_tuples : List Report → List Tuple
as_tuples rs = map (λ r. ReportTuple r) rs

-- they have the reports
pub reports_back : (rs : List Report) → reports (as_tuples rs) ≡ rs
reports_back [] = refl
reports_back (r ∷ rs) = ap (λ xs. r ∷ xs) (reports_back rs)

-- whether a report, or a note, is of a vehicle in a minute
abbrev is_in : ℕ → ℕ → Report → Bool
is_in v m r = r.vid == v && minute_of r.time == m

-- whether a note is of a vehicle in a minute
abbrev is_noted : ℕ → ℕ → Note → Bool
is_noted v m n = n.minute == m && n.vid == v

-- one note more, by what the tests say of it
count_step : (a b : Bool) (n : Note) (ns : List Note) (k : ℕ) → length ns ≡ k →
    length (cond (a && b) (n ∷ ns) ns) ≡ cond (b && a) 1 0 + k
count_step true true n ns k h = omega (arith, h)
count_step true false n ns k h = omega (arith, h)
count_step false true n ns k h = omega (arith, h)
count_step false false n ns k h = omega (arith, h)

-- a vehicle has as many notes in a minute as reports
noted_count : (v m : ℕ) (rs : List Report) → length (filter (is_noted v m) (notes_of rs)) ≡ count_by (is_in v m) rs
noted_count v m [] = refl
noted_count v m (r ∷ rs) =
    count_step (minute_of r.time == m) (r.vid == v) (note_of r) (filter (is_noted v m) (notes_of rs))
    (count_by (is_in v m) rs) (noted_count v m rs)
    ∙ sym (sum_by-cons (λ s. cond (is_in v m s) 1 0) r rs)

-- the reports of all events, the next one among them, are a day's
day_with : (before : List LaneEvent) (position : ℕ) (r : Report) (b s : Bool) → CanRun before (Seen position r b s ∷ [])
    → IsDay (as_tuples (seen before ++ r ∷ []))
day_with before position r b s can = subst (λ rs. IsDay (as_tuples rs)) (seen_push before (Seen position r b s)) can.day

-- the next report is in range
pub next_valid : (before : List LaneEvent) (position : ℕ) (r : Report) (b s : Bool) →
    CanRun before (Seen position r b s ∷ []) → IsReport r
next_valid before position r b s can =
    let all =
    recursion_from_All IsValid (as_tuples (seen before) ++ ReportTuple r ∷ [])
    (subst (λ xs. Fit xs DAY) (map-append (λ q. ReportTuple q) (seen before) (r ∷ []))
    (day_with before position r b s can)).valid in
    (right_part IsValid (as_tuples (seen before)) (ReportTuple r ∷ []) all).0

-- one of at most four comes after at most three
one_of_four : (n : ℕ) (b : Bool) → b ≡ true → n + cond b 1 0 ≤ 4 → n ≤ 3
one_of_four n true e h = omega (arith, h)
one_of_four n false e h = cc

-- the next report may be noted
pub next_note : (before : List LaneEvent) (position : ℕ) (r : Report) (b s : Bool) →
    CanRun before (Seen position r b s ∷ []) → CanNote (notes_of (seen before)) (note_of r)
next_note before position r b s can =
    let rs = seen before in
    let m = minute_of r.time in
    let day = day_with before position r b s can in
    let rare : count_by (is_in r.vid m) (rs ++ r ∷ []) ≤ 4 = rw (reports_back (rs ++ r ∷ [])) at (day.rare r.vid m) in
    let vehicles : length (distinct (map (λ q. q.vid) (rs ++ r ∷ []))) ≤ 500000 =
    rw (reports_back (rs ++ r ∷ [])) at day.vehicles in
    let counted : count_by (is_in r.vid m) rs + cond (is_in r.vid m r) 1 0 ≤ 4 =
    rw (sum_by_push (λ q. cond (is_in r.vid m q) 1 0) rs r) at rare in
    let itself : is_in r.vid m r ≡ true = and_from (r.vid == r.vid) (m == m) (number_same r.vid) (number_same m) in
    let same : map (λ n. n.vid) (notes_of rs ++ note_of r ∷ []) ≡ map (λ q. q.vid) (rs ++ r ∷ []) =
    ap (map (λ n. n.vid)) (sym (map-append note_of rs (r ∷ []))) ∙ same_vids (rs ++ r ∷ []) in
    record {
      three = rw (noted_count r.vid m rs) (one_of_four _ (is_in r.vid m r) itself counted);
      few = rw same vehicles;
    }
