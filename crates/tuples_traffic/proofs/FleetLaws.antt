-- what holds of the tuples of vehicles whose numbers lie between two
use Rattle.std.proofs.Common.{◌≡◌, ◌≢◌, ℕ, ◌+◌, ◌*◌, ◌%◌, ◌≤◌, ◌<◌, ◌==◌, ◌&&◌, ◌⊎◌, ⊎_elim, inl, inr, true, cond, List}
use Rattle.std.proofs.Common.{[], ◌∷◌, ◌++◌, length, nat_lt, Option, Some, None, IfSome, refl, arith, sym}
use Rattle.std.specs.List.{AllByRecursion}
use Rattle.std.proofs.lemmas.Bool.{cond_both, and_parts, ltb-true, ne_eqb}
use Rattle.std.proofs.lemmas.List.{length-append}
use Rattle.std.proofs.lemmas.List.Sums.{sum_by-cons}
use Rattle.road_time.specs.declared.road.Tuple.{Tuple}
use Rattle.road_time.specs.declared.road.Tuple.TheVariants.{Report as ReportTuple, Balance, Spent, Travel}
use Rattle.road_time.specs.declared.road.Report.{Report}
use Rattle.road_time.specs.Clock.{minute_of}
use Rattle.road_time.specs.Tuples.{reports}
use Rattle.road_time.specs.Fits.{IsValid, reports_in_minute}
use Rattle.road_time.proofs.EachLaws.{joined, weakened}
use Rattle.tuples_traffic.specs.declared.crash.Crash.{Crash}
use Rattle.tuples_traffic.specs.declared.trip.Trip.{Trip}
use Rattle.tuples_traffic.specs.Turns.{vid_of, type_of}
use Rattle.tuples_traffic.specs.Reports.{reports_before}
use Rattle.tuples_traffic.specs.Crashes.{IsCrash, crash_report, crash_vehicle}
use Rattle.tuples_traffic.specs.Trips.{IsTrip, trip_report, asking_time, asks, spent_request, requests, trip_tuples}
use Rattle.tuples_traffic.proofs.RangeLaws.{crash_time, crash_vid, crash_fine, trip_fine}
use Rattle.tuples_traffic.proofs.TurnLaws.{Turns, InTurn, turns_joined}
use Rattle.tuples_traffic.proofs.ReportLaws.{counts_joined, each_report, few_reports, rare_reports, reports_in_turn}

-- the tuples are valid, of vehicles from one number on and below another, few and rare, and in the order of vehicles
-- and types
pub record Fleet (low high : ℕ) (xs : List Tuple) : Type 0 where
  pub valid : AllByRecursion IsValid xs
  pub above : AllByRecursion (λ x. low ≤ vid_of x) xs
  pub below : AllByRecursion (λ x. vid_of x < high) xs
  pub few : length xs + 38 * low ≤ 38 * high
  pub rare : (v m : ℕ) → reports_in_minute xs v m ≤ 4
  pub in_turn : InTurn xs

-- a vehicle has no report among those of others
none_of : (v m : ℕ) (xs : List Tuple) → AllByRecursion (λ x. vid_of x ≢ v) xs → reports_in_minute xs v m ≡ 0
none_of v m [] h = refl
none_of v m (ReportTuple r ∷ xs) h =
    rw (
      sum_by-cons (λ (s : Report). cond (s.vid == v && minute_of s.time == m) 1 0) r (reports xs),
      ne_eqb r.vid v h.0,
      none_of v m xs h.1,
    ) refl
none_of v m (Balance time vid qid ∷ xs) h = none_of v m xs h.1
none_of v m (Spent time vid xway qid day ∷ xs) h = none_of v m xs h.1
none_of v m (Travel time ∷ xs) h = none_of v m xs h.1

-- a number lies below another or not
halves : (a b : ℕ) → (a < b) ⊎ (b ≤ a)
halves a b = grind arith

module _ (low mid high : ℕ) (xs ys : List Tuple) (a : Fleet low mid xs) (b : Fleet mid high ys) where
  rare_joined : (v m : ℕ) → reports_in_minute (xs ++ ys) v m ≤ 4
  rare_joined v m =
      ⊎_elim
      (λ (l : v < mid). let none =
      none_of v m ys
      (weakened (λ x. mid ≤ vid_of x) (λ x. vid_of x ≢ v) (λ x h e. absurd (omega (arith, h, e, l))) ys b.above) in
      omega (arith, counts_joined xs ys v m, none, a.rare v m))
      (λ (l : mid ≤ v). let none =
      none_of v m xs
      (weakened (λ x. vid_of x < mid) (λ x. vid_of x ≢ v) (λ x h e. absurd (omega (arith, h, e, l))) xs a.below) in
      omega (arith, counts_joined xs ys v m, none, b.rare v m))
      (halves v mid)

  -- two such lists, one behind the other
  pub fleets : Fleet low high (xs ++ ys)
  fleets =
      let rise : (low ≤ mid) × (mid ≤ high) = (omega (arith, a.few), omega (arith, b.few)) in
      record {
        valid = joined IsValid xs ys a.valid b.valid;
        above = joined (λ x. low ≤ vid_of x) xs ys a.above
            (weakened (λ x. mid ≤ vid_of x) (λ x. low ≤ vid_of x) (λ x h. omega (arith, h, rise.0)) ys b.above);
        below = joined (λ x. vid_of x < high) xs ys
            (weakened (λ x. vid_of x < mid) (λ x. vid_of x < high) (λ x h. omega (arith, h, rise.1)) xs a.below)
            b.below;
        few = omega (arith, length-append xs ys, a.few, b.few);
        rare = rare_joined;
        in_turn =
            turns_joined xs ys a.in_turn b.in_turn
            (weakened (λ x. vid_of x < mid) (λ x. AllByRecursion (Turns x) ys)
            (λ x h. weakened (λ y. mid ≤ vid_of y) (Turns x) (λ y g _. inl (omega (arith, h, g))) ys b.above) xs
            a.below);
      }

-- no vehicle
pub no_fleet : (n : ℕ) → Fleet n n []
no_fleet n = record { valid = tt; above = tt; below = tt; few = omega arith; rare = λ v m. omega arith; in_turn = tt }

-- a vehicle of a crash
pub crash_fleet : (end vid high start : ℕ) (c : Crash) → IsCrash c → end ≤ 86400 → vid ≤ 5000 → vid + 1 ≡ high →
    Fleet vid high (crash_vehicle end c vid start)
crash_fleet end vid high start c is day few next =
    let report = crash_report c vid start in
    let n = c.stops + 4 in
    record {
      valid = each_report end start report (crash_time c vid start) IsValid n
          (λ k l t. crash_fine c vid start k is few l (omega (arith, t, day, crash_time c vid start k)));
      above = each_report end start report (crash_time c vid start) (λ x. vid ≤ vid_of x) n
          (λ k l t. omega (arith, crash_vid c vid start k));
      below = each_report end start report (crash_time c vid start) (λ x. vid_of x < high) n
          (λ k l t. omega (arith, crash_vid c vid start k, next));
      few = let some = few_reports end start report (crash_time c vid start) n in
          omega (arith, some, is.few_stops, next);
      rare = λ v m. (let two = rare_reports end start report (crash_time c vid start) v m n in omega (arith, two));
      in_turn = reports_in_turn end start report (crash_time c vid start) n;
    }

-- what holds of a trip's requests
record Asked (t : Trip) (xs : List Tuple) : Type 0 where
  valid : AllByRecursion IsValid xs
  own : AllByRecursion (λ x. (vid_of x ≡ t.vid) × (0 < type_of x)) xs
  few : length xs ≤ 2
  silent : (v m : ℕ) → reports_in_minute xs v m ≡ 0
  in_turn : InTurn xs

-- a balance request, and one for a past day if there is one
asked_with : (t : Trip) (past : Option ℕ) → IsTrip t → IfSome past (λ day. (1 ≤ day) × (day ≤ 69)) →
    asking_time t ≤ 86399 → Asked t (Balance (asking_time t) t.vid t.vid ∷ spent_request t past)
asked_with t None is days time = record {
  valid = ((time, omega (arith, is.vid), omega (arith, is.vid)), tt);
  own = ((refl, omega arith), tt);
  few = omega arith;
  silent = λ v m. refl;
  in_turn = (tt, tt);
}
asked_with t (Some day) is days time = record {
  valid = (
    (time, omega (arith, is.vid), omega (arith, is.vid)),
    ((time, omega (arith, is.vid), is.xway, omega (arith, is.vid), days.0, days.1), tt),
  );
  own = ((refl, omega arith), ((refl, omega arith), tt));
  few = omega arith;
  silent = λ v m. refl;
  in_turn = (((λ _. inr (refl, omega arith)), tt), (tt, tt));
}

-- a request that is made comes before midnight
in_time : (end : ℕ) (t : Trip) → end ≤ 86400 → asks end t ≡ true → asking_time t ≤ 86399
in_time end t day e =
    let late =
    ltb-true (asking_time t) end
    (and_parts (nat_lt 5 t.reports) (nat_lt (asking_time t) end)
    (and_parts (t.vid % 10 == 0) (nat_lt 5 t.reports && nat_lt (asking_time t) end) e).1).1 in
    omega (arith, late, day)

-- so of the requests of any trip
asked : (end : ℕ) (t : Trip) → IsTrip t → end ≤ 86400 → Asked t (requests end t)
asked end t is day =
    cond_both (asks end t) (Balance (asking_time t) t.vid t.vid ∷ spent_request t t.past) [] (Asked t)
    (λ e. asked_with t t.past is is.past (in_time end t day e))
    (λ _. record { valid = tt; own = tt; few = omega arith; silent = λ v m. refl; in_turn = tt })

-- a vehicle that makes a trip
pub trip_fleet : (end high : ℕ) (t : Trip) → IsTrip t → end ≤ 86400 → t.vid + 1 ≡ high →
    Fleet t.vid high (trip_tuples end t)
trip_fleet end high t is day next =
    let report = trip_report t in
    let n = t.reports in
    let first = reports_before end report n in
    let more = requests end t in
    let ask = asked end t is day in
    record {
      valid = joined IsValid first more
          (each_report end t.start report (λ k. refl) IsValid n
          (λ k l time. trip_fine t k is l (omega (arith, time, day)))) ask.valid;
      above = joined (λ x. t.vid ≤ vid_of x) first more
          (each_report end t.start report (λ k. refl) (λ x. t.vid ≤ vid_of x) n (λ k l time. omega arith))
          (weakened (λ x. (vid_of x ≡ t.vid) × (0 < type_of x)) (λ x. t.vid ≤ vid_of x) (λ x h. omega (arith, h.0)) more
          ask.own);
      below = joined (λ x. vid_of x < high) first more
          (each_report end t.start report (λ k. refl) (λ x. vid_of x < high) n (λ k l time. omega (arith, next)))
          (weakened (λ x. (vid_of x ≡ t.vid) × (0 < type_of x)) (λ x. vid_of x < high) (λ x h. omega (arith, h.0, next))
          more ask.own);
      few = let some = few_reports end t.start report (λ k. refl) n in
          omega (arith, some, ask.few, is.few_reports, next, length-append first more);
      rare = λ v m. (let two = rare_reports end t.start report (λ k. refl) v m n in
          omega (arith, two, ask.silent v m, counts_joined first more v m));
      in_turn =
          turns_joined first more (reports_in_turn end t.start report (λ k. refl) n) ask.in_turn
          (each_report end t.start report (λ k. refl) (λ x. AllByRecursion (Turns x) more) n
          (λ k l time. weakened (λ x. (vid_of x ≡ t.vid) × (0 < type_of x)) (Turns (ReportTuple (trip_report t k)))
          (λ x h _. inr (sym h.0, h.1)) more ask.own));
    }
