-- a worker reads from its events up to a second who is stopped then
use Rattle.std.proofs.Common.{◌≡◌, ℕ, ◌≤◌, ◌<◌, ⊎_elim, Bool, true, false, cond, List, [], ◌∷◌, ◌++◌, refl, sym, ap}
use Rattle.std.proofs.Common.{◌∙◌, arith, Option, Some, None, nat_le, eqb}
use Rattle.std.specs.List.{filter, flat_map, AllByRecursion, cons_option}
use Rattle.std.proofs.lemmas.List.Elements.{filter-append, filter_map-append}
use Rattle.std.proofs.lemmas.Bool.{cond-true, cond-false, le-leb, lt-leb, cases_lt}
use Rattle.road_time.specs.declared.road.Tuple.{Tuple}
use Rattle.road_time.specs.declared.road.Tuple.TheVariants.{Report as ReportTuple, Balance, Spent, Travel}
use Rattle.road_time.specs.declared.road.Report.{Report}
use Rattle.road_time.specs.declared.road.Place.{Place}
use Rattle.road_time.specs.Order.{NoneBefore, AreTimesInOrder}
use Rattle.road_time.specs.Ways.{way_of, worker_for}
use Rattle.road_time.specs.Tuples.{reports, report_of, time_of, stretch_around}
use Rattle.road_time.specs.Stops.{up_to, is_stopped, trail, left_by}
use Rattle.road_time.specs.Entries.{StopEntry, is_standing, entries_up_to}
use Rattle.road_time.specs.Sights.{moments_after}
use Rattle.road_time.proofs.EachLaws.{kept}
use Rattle.ways_expressway.specs.declared.lane_event.LaneEvent.{LaneEvent}
use Rattle.ways_expressway.specs.declared.lane_event.LaneEvent.TheVariants.{Seen, Leave}
use Rattle.ways_expressway.specs.Events.{events_at, events_for, leave_of, told_to, way_told, time_told, stop_entry_of}
use Rattle.ways_expressway.specs.Events.{entries}
use Rattle.ways_expressway.proofs.StopLaws.{stopped_same}

-- the tuples up to the end of a second
abbrev pub cut : ℕ → List Tuple → List Tuple
cut second day = filter (λ x. nat_le (time_of x) second) day

-- the reports of a report and others, or of these alone
with_report : (b : Bool) (r : Report) (xs : List Tuple) (rs : List Report) → reports xs ≡ rs →
    reports (cond b (ReportTuple r ∷ xs) xs) ≡ cond b (r ∷ rs) rs
with_report true r xs rs h = ap (λ ys. r ∷ ys) h
with_report false r xs rs h = h

-- a tuple that is no report adds none
without_report : (b : Bool) (x : Tuple) (xs : List Tuple) → report_of x ≡ None →
    reports (cond b (x ∷ xs) xs) ≡ reports xs
without_report true x xs h = ap (λ o. cons_option o (reports xs)) h
without_report false x xs h = refl

-- the reports of the tuples up to a second
pub reports_cut : (second : ℕ) (day : List Tuple) → reports (cut second day) ≡ up_to second (reports day)
reports_cut second [] = refl
reports_cut second (ReportTuple r ∷ xs) =
    with_report (nat_le r.time second) r (cut second xs) (up_to second (reports xs)) (reports_cut second xs)
reports_cut second (Balance time vid qid ∷ xs) =
    without_report (nat_le time second) (Balance time vid qid) (cut second xs) refl ∙ reports_cut second xs
reports_cut second (Spent time vid xway qid of_day ∷ xs) =
    without_report (nat_le time second) (Spent time vid xway qid of_day) (cut second xs) refl ∙ reports_cut second xs
reports_cut second (Travel time ∷ xs) = without_report (nat_le time second) (Travel time) (cut second xs) refl
    ∙ reports_cut second xs

-- entries of one second
abbrev Of : ℕ → List StopEntry → Type 0
Of n es = AllByRecursion (λ e. e.second ≡ n) es

-- events of one second have entries of it
entries_of : (n : ℕ) (es : List LaneEvent) → AllByRecursion (λ e. time_told e ≡ n) es → Of n (entries es)
entries_of n [] h = tt
entries_of n (Seen position r b true ∷ es) h = (h.0, entries_of n es h.1)
entries_of n (Seen position r b false ∷ es) h = entries_of n es h.1
entries_of n (Leave position time vid place ∷ es) h = (h.0, entries_of n es h.1)

-- the events of a report are of its second
leave_time : (position : ℕ) (r : Report) (o : Option Place) (b s : Bool) →
    AllByRecursion (λ e. time_told e ≡ r.time) (leave_of position r o ++ Seen position r b s ∷ [])
leave_time position r None b s = (refl, tt)
leave_time position r (Some place) b s = (refl, (refl, tt))

-- the events of a tuple are of its second
pub events_time : (before : List Tuple) (x : Tuple) →
    AllByRecursion (λ e. time_told e ≡ time_of x) (events_at (before, x))
events_time before (ReportTuple r) = leave_time _ r (left_by (trail (reports before) r.vid) r) _ _
events_time before (Balance time vid qid) = tt
events_time before (Spent time vid xway qid of_day) = tt
events_time before (Travel time) = tt

-- entries of a second are all there up to a later one
all_up_to : (second n : ℕ) (es : List StopEntry) → Of n es → n ≤ second → entries_up_to second es ≡ es
all_up_to second n [] h g = refl
all_up_to second n (e ∷ es) h g = cond-true (nat_le e.second second) _ _ (le-leb e.second second (omega (arith, h.0)))
    ∙ ap (λ xs. e ∷ xs) (all_up_to second n es h.1 g)

-- and none up to an earlier one
none_up_to : (second n : ℕ) (es : List StopEntry) → Of n es → second < n → entries_up_to second es ≡ []
none_up_to second n [] h g = refl
none_up_to second n (e ∷ es) h g = cond-false (nat_le e.second second) _ _ (lt-leb e.second second (omega (arith, h.0)))
    ∙ none_up_to second n es h.1 g

-- later tuples are not up to a second
cut_none : (second n : ℕ) (day : List Tuple) → second < n → NoneBefore n day → cut second day ≡ []
cut_none second n [] h l = refl
cut_none second n (x ∷ xs) h l =
    cond-false (nat_le (time_of x) second) _ _ (lt-leb (time_of x) second (omega (arith, l.0)))
    ∙ cut_none second n xs h l.1

-- joined lists of equal parts
joined_same : {X : Type 0} {a b c d : List X} → a ≡ c → b ≡ d → a ++ b ≡ c ++ d
joined_same p q = rw (p, q) refl

module _ (worker width second : ℕ) where
  -- the worker's entries of events
  abbrev told : List LaneEvent → List StopEntry
  told es = entries (told_to worker width es)

  -- the events of tuples after others
  abbrev after : List Tuple → List Tuple → List LaneEvent
  after before day = flat_map events_at (moments_after before day)

  -- the entries of joined events
  told-append : (xs ys : List LaneEvent) → told (xs ++ ys) ≡ told xs ++ told ys
  told-append xs ys =
      let is_told = λ (e : LaneEvent). eqb (worker_for (way_told e) width) worker in
      ap entries (filter-append is_told xs ys)
      ∙ filter_map-append stop_entry_of (told_to worker width xs) (told_to worker width ys)

  -- the entries of a tuple are of its second
  told_time : (before : List Tuple) (x : Tuple) → Of (time_of x) (told (events_at (before, x)))
  told_time before x =
      entries_of (time_of x) (told_to worker width (events_at (before, x)))
      (kept (λ e. time_told e ≡ time_of x) _ (events_at (before, x)) (events_time before x))

  -- the entries of a tuple, and of those after it, up to a second
  up_to-append : (before : List Tuple) (x : Tuple) (xs : List Tuple) →
      entries_up_to second (told (after before (x ∷ xs))) ≡ entries_up_to second (told (events_at (before, x)))
      ++ entries_up_to second (told (after (before ++ x ∷ []) xs))
  up_to-append before x xs =
      ap (entries_up_to second) (told-append (events_at (before, x)) (after (before ++ x ∷ []) xs))
      ∙ filter-append (λ e. nat_le e.second second) (told (events_at (before, x))) (told (after (before ++ x ∷ []) xs))

  -- later tuples have none up to it
  none_told : (n : ℕ) (before day : List Tuple) → second < n → NoneBefore n day →
      entries_up_to second (told (after before day)) ≡ []
  none_told n before [] h l = refl
  none_told n before (x ∷ xs) h l =
      up_to-append before x xs
      ∙ joined_same
      (none_up_to second (time_of x) (told (events_at (before, x))) (told_time before x) (omega (arith, l.0)))
      (none_told n (before ++ x ∷ []) xs h l.1)

  -- the entries up to a second are those of the tuples up to it
  pub told_cut : (before day : List Tuple) → AreTimesInOrder day →
      entries_up_to second (told (after before day)) ≡ told (after before (cut second day))
  told_cut before [] h = refl
  told_cut before (x ∷ xs) h =
      ⊎_elim
      (λ late. let from_here : NoneBefore (time_of x) (x ∷ xs) = (omega arith, h.0) in
      none_told (time_of x) before (x ∷ xs) late from_here
      ∙ sym (ap (λ d. told (after before d)) (cut_none second (time_of x) (x ∷ xs) late from_here)))
      (λ soon. up_to-append before x xs
      ∙ joined_same (all_up_to second (time_of x) (told (events_at (before, x))) (told_time before x) soon)
      (told_cut (before ++ x ∷ []) xs h.1)
      ∙ sym (ap (λ d. told (after before d))
      (cond-true (nat_le (time_of x) second) _ _ (le-leb (time_of x) second soon))
      ∙ told-append (events_at (before, x)) (after (before ++ x ∷ []) (cut second xs))))
      (cases_lt second (time_of x))

-- who is stopped at a place of the worker's ways at the end of a second, as the worker reads it
pub stopped_then : (worker width second vid : ℕ) (place : Place) →
    worker_for (way_of (stretch_around place)) width ≡ worker → (day : List Tuple) → AreTimesInOrder day →
    is_standing (entries_up_to second (entries (events_for day worker width))) vid place ≡ is_stopped
    (up_to second (reports day)) vid place
stopped_then worker width second vid place its day order =
    ap (λ es. is_standing es vid place) (told_cut worker width second [] day order)
    ∙ stopped_same worker width vid place its (cut second day)
    ∙ ap (λ rs. is_stopped rs vid place) (reports_cut second day)
