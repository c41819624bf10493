-- what passes the tests that compute can be run
use Rattle.std.proofs.Common.{◌≡◌, ℕ, ◌≤◌, ◌==◌, ◌⊎◌, ⊎_elim, inl, inr, Bool, true, false, cond, List, [], ◌∷◌, ◌++◌}
use Rattle.std.proofs.Common.{length, map, nat_le, refl, ap, arith, subst}
use Rattle.std.specs.List.{list_all, count_by, AllByRecursion}
use Rattle.std.proofs.lemmas.List.{length-map}
use Rattle.std.proofs.lemmas.List.Elements.{All-from_recursion}
use Rattle.std.proofs.lemmas.List.Sums.{sum_by-cons}
use Rattle.std.proofs.lemmas.Bool.{cases_Bool, and_parts, leb-true, eqb-true}
use Rattle.road_time.specs.declared.road.Report.{Report}
use Rattle.road_time.specs.declared.road.Tuple.TheVariants.{Report as ReportTuple}
use Rattle.road_time.specs.Clock.{minute_of}
use Rattle.road_time.specs.Order.{NoneBefore, AreTimesInOrder}
use Rattle.road_time.specs.Notes.{distinct}
use Rattle.road_time.specs.Entries.{is_standing}
use Rattle.road_time.specs.Fits.{IsDay, IsValid, IsReport}
use Rattle.ways_expressway.specs.declared.lane_event.LaneEvent.{LaneEvent}
use Rattle.ways_expressway.specs.declared.lane_event.LaneEvent.TheVariants.{Seen, Leave}
use Rattle.ways_expressway.specs.Events.{seen, entries, time_told}
use Rattle.ways_expressway.specs.Runs.{NoneAfter, MayFollow, MayRun}
use Rattle.ways_expressway.specs.Ready.{CanRun}
use Rattle.ways_expressway.specs.Checks.{follows, all_follow, numbers_in_range, times_rise, is_report_of, all_rare}
use Rattle.ways_expressway.specs.Checks.{are_a_day, can_be_run}
use Rattle.ways_expressway.proofs.ReadyLaws.{as_tuples, reports_back}

-- what passes a test has what the test tells
all_pass : {X : Type 0} (P : X → Type 0) (test : X → Bool) → ((x : X) → test x ≡ true → P x) → (xs : List X) →
    list_all test xs ≡ true → AllByRecursion P xs
all_pass P test f [] h = tt
all_pass P test f (x ∷ xs) h = let both = and_parts (test x) (list_all test xs) h in
    (f x both.0, all_pass P test f xs both.1)

-- events that pass are of no later second
none_after : (second : ℕ) (es : List LaneEvent) → list_all (λ e. nat_le (time_told e) second) es ≡ true →
    NoneAfter second es
none_after second es h =
    all_pass (λ e. time_told e ≤ second) (λ e. nat_le (time_told e) second) (λ e g. leb-true (time_told e) second g) es
    h

-- an event that passes may come after those
may_follow : (before : List LaneEvent) (e : LaneEvent) → follows before e ≡ true → MayFollow before e
may_follow before (Seen position r begins stopped) h = none_after r.time before h
may_follow before (Leave position time vid place) h = let both =
    and_parts (list_all (λ e. nat_le (time_told e) time) before) (is_standing (entries before) vid place) h in
    (none_after time before both.0, both.1)

-- events that pass may come one by one
may_run : (before es : List LaneEvent) → all_follow before es ≡ true → MayRun before es
may_run before [] h = tt
may_run before (e ∷ es) h = let both = and_parts (follows before e) (all_follow (before ++ e ∷ []) es) h in
    (may_follow before e both.0, may_run (before ++ e ∷ []) es both.1)

-- a report that passes is in range
is_report : (r : Report) → numbers_in_range r ≡ true → IsReport r
is_report r h =
    let a = and_parts (nat_le r.time 86399) _ h in
    let b = and_parts (nat_le r.vid 2147483647) _ a.1 in
    let c = and_parts (nat_le r.spd 100) _ b.1 in
    let d = and_parts (nat_le r.xway 255) _ c.1 in
    let e = and_parts (nat_le r.lane 4) _ d.1 in
    let f = and_parts (nat_le r.dir 1) _ e.1 in
    let g = and_parts (nat_le r.seg 99) (nat_le r.pos 527999) f.1 in (
      leb-true _ _ a.0,
      leb-true _ _ b.0,
      leb-true _ _ c.0,
      leb-true _ _ d.0,
      leb-true _ _ e.0,
      leb-true _ _ f.0,
      leb-true _ _ g.0,
      leb-true _ _ g.1,
    )

-- reports that pass are valid tuples
all_valid : (rs : List Report) → list_all numbers_in_range rs ≡ true → AllByRecursion IsValid (as_tuples rs)
all_valid [] h = tt
all_valid (r ∷ rs) h = let both = and_parts (numbers_in_range r) (list_all numbers_in_range rs) h in
    (is_report r both.0, all_valid rs both.1)

-- none of those that pass is of an earlier second
none_before : (second : ℕ) (rs : List Report) → list_all (λ q. nat_le second q.time) rs ≡ true →
    NoneBefore second (as_tuples rs)
none_before second [] h = tt
none_before second (r ∷ rs) h = let both =
    and_parts (nat_le second r.time) (list_all (λ q. nat_le second q.time) rs) h in
    (leb-true second r.time both.0, none_before second rs both.1)

-- Times of those that pass do not fall
in_order : (rs : List Report) → times_rise rs ≡ true → AreTimesInOrder (as_tuples rs)
in_order [] h = tt
in_order (r ∷ rs) h = let both = and_parts (list_all (λ q. nat_le r.time q.time) rs) (times_rise rs) h in
    (none_before r.time rs both.0, in_order rs both.1)

-- a report that is not of the vehicle in the minute is not counted
not_counted : (vid minute : ℕ) (r : Report) (rs : List Report) → is_report_of vid minute r ≡ false →
    count_by (is_report_of vid minute) rs ≡ 0 → count_by (is_report_of vid minute) (r ∷ rs) ≡ 0
not_counted vid minute r rs e h =
    let none : ◌≡◌ {A = ℕ} (cond {A = ℕ} (is_report_of vid minute r) 1 0) 0 = ap (λ b. cond {A = ℕ} b 1 0) e in
    omega (arith, sum_by-cons (λ q. cond (is_report_of vid minute q) 1 0) r rs, none, h)

-- none of the reports is of a vehicle in a minute, or at most four of all are
rare_or_none : (all : List Report) (vid minute : ℕ) (rs : List Report) → all_rare all rs ≡ true →
    (count_by (is_report_of vid minute) rs ≡ 0) ⊎ (count_by (is_report_of vid minute) all ≤ 4)
rare_or_none all vid minute [] h = inl refl
rare_or_none all vid minute (r ∷ rs) h =
    let both = and_parts (nat_le (count_by (is_report_of r.vid (minute_of r.time)) all) 4) (all_rare all rs) h in
    ⊎_elim
    (λ yes. let same = and_parts (r.vid == vid) (minute_of r.time == minute) yes in
    inr (subst (λ m. count_by (is_report_of vid m) all ≤ 4) (eqb-true (minute_of r.time) minute same.1)
    (subst (λ v. count_by (is_report_of v (minute_of r.time)) all ≤ 4) (eqb-true r.vid vid same.0)
    (leb-true _ 4 both.0))))
    (λ no. ⊎_elim (λ e. inl (not_counted vid minute r rs no e)) (λ few. inr few)
    (rare_or_none all vid minute rs both.1))
    (cases_Bool (is_report_of vid minute r))

-- none is at most four
few : (n : ℕ) → n ≡ 0 → n ≤ 4
few n e = omega (arith, e)

-- reports that pass are a day's
is_day : (rs : List Report) → are_a_day rs ≡ true → IsDay (as_tuples rs)
is_day rs h =
    let a = and_parts (list_all numbers_in_range rs) _ h in
    let b = and_parts (nat_le (length rs) 16000000) _ a.1 in
    let c = and_parts (times_rise rs) _ b.1 in
    let d = and_parts (nat_le (length (distinct (map (λ r. r.vid) rs))) 500000) (all_rare rs rs) c.1 in
    record {
      valid = All-from_recursion IsValid (as_tuples rs) (all_valid rs a.0);
      lines = rw (length-map rs (λ r. ReportTuple r)) (leb-true (length rs) 16000000 b.0);
      in_order = in_order rs c.0;
      vehicles = rw (reports_back rs) (leb-true _ 500000 d.0);
      rare = λ vid minute. rw (reports_back rs) (⊎_elim (λ e. few _ e) (λ h. h) (rare_or_none rs vid minute rs d.1));
    }

-- events that pass can be run on a new carriage
pub checked : (es : List LaneEvent) → can_be_run es ≡ true → CanRun [] es
checked es h = let both = and_parts (all_follow [] es) (are_a_day (seen es)) h in
    record { order = may_run [] es both.0; day = is_day (seen es) both.1 }
