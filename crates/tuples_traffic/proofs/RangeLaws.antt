-- what a plan in its ranges draws is in its ranges
use Rattle.std.proofs.Common.{◌≡◌, ℕ, ◌+◌, ◌-◌, ◌*◌, ◌/◌, ◌%◌, ◌==◌, ◌≤◌, ◌<◌, ◌&&◌, not, nat_le, nat_lt, Bool, true}
use Rattle.std.proofs.Common.{false, cond, Option, Some, None, IfSome, refl, arith}
use Rattle.std.proofs.lemmas.Bool.{and_parts, not-false, leb-true, cond_both}
use Rattle.std.proofs.lemmas.Nat.{mod_below, mul-le}
use Rattle.rand_pcg.specs.Lcg.{Lcg}
use Rattle.rand_pcg.specs.Pcg.{pcg32}
use Rattle.road_time.specs.declared.road.Report.{Report}
use Rattle.road_time.specs.Fits.{IsReport}
use Rattle.tuples_traffic.specs.declared.plan.GenPlan.{GenPlan}
use Rattle.tuples_traffic.specs.declared.crash.Crash.{Crash}
use Rattle.tuples_traffic.specs.declared.trip.Trip.{Trip}
use Rattle.tuples_traffic.specs.Plans.{field_out, InRange, end_of}
use Rattle.day_plan.specs.Draws.{drawn}
use Rattle.tuples_traffic.specs.Directions.{direction_of}
use Rattle.tuples_traffic.specs.Reports.{time_at, moved_on, report_at}
use Rattle.tuples_traffic.specs.Crashes.{drawn_crash, IsCrash, crash_position, crash_report}
use Rattle.tuples_traffic.specs.Trips.{drawn_past, drawn_trip, IsTrip, lane_at, trip_report}

-- no field is named, so this one is not
none_if : (b : Bool) (n : ℕ) (o : Option ℕ) → cond b (Some n) o ≡ None → (b ≡ false) × (o ≡ None)
none_if true n o e = cc
none_if false n o e = (refl, e)

-- a test of two bounds that does not fail
both : (a b c d : ℕ) → not (nat_le a b && nat_le c d) ≡ false → (a ≤ b) × (c ≤ d)
both a b c d e = let parts = and_parts (nat_le a b) (nat_le c d) (not-false _ e) in
    (leb-true a b parts.0, leb-true c d parts.1)

-- where no field is out of its range all are in theirs
pub in_range : (plan : GenPlan) → field_out plan ≡ None → InRange plan
in_range plan e =
    let vehicles = none_if (not (nat_le 1 plan.vehicles && nat_le plan.vehicles 5000)) 2 _ e in
    let minutes = none_if (not (nat_le 1 plan.minutes && nat_le plan.minutes 1440)) 3 _ vehicles.1 in
    let xways = none_if (not (nat_le 1 plan.xways && nat_le plan.xways 256)) 4 _ minutes.1 in
    let crashes = none_if (not (nat_le plan.crashes 100 && nat_le (2 * plan.crashes) plan.vehicles)) 5 _ xways.1 in
    let v = both 1 plan.vehicles plan.vehicles 5000 vehicles.0 in
    let m = both 1 plan.minutes plan.minutes 1440 minutes.0 in
    let x = both 1 plan.xways plan.xways 256 xways.0 in
    let c = both plan.crashes 100 (2 * plan.crashes) plan.vehicles crashes.0 in
    record {
      some_vehicles = v.0;
      few_vehicles = v.1;
      some_minutes = m.0;
      few_minutes = m.1;
      some_xways = x.0;
      few_xways = x.1;
      few_crashes = c.0;
      pairs = c.1;
    }

-- a draw is below its number
pub drawn_below : (n : ℕ) (g : Lcg) → 0 < n → (drawn n g).0 < n
unfolding drawn
drawn_below n g h = mod_below (pcg32 g).0 n h

-- there are two directions
one_of_two : (n : ℕ) → direction_of n ≤ 1
one_of_two n = cond_both (n == 0) 1 0 (λ d. d ≤ 1) (λ _. omega arith) (λ _. omega arith)

-- a crash that is drawn
pub crash_drawn : (plan : GenPlan) → InRange plan → (g : Lcg) → IsCrash (drawn_crash plan g).0
crash_drawn plan r g =
    let xway = drawn plan.xways g in
    let way = drawn 4 xway.1 in
    let start = drawn (30 * plan.minutes) way.1 in
    let seg = drawn 4 start.1 in
    let stops = drawn 8 seg.1 in
    let x = drawn_below plan.xways g (omega (arith, r.some_xways)) in
    let s = drawn_below (30 * plan.minutes) way.1 (omega (arith, r.some_minutes)) in
    let m = drawn_below 4 start.1 (omega arith) in
    let n = drawn_below 8 seg.1 (omega arith) in
    record {
      xway = omega (arith, x, r.few_xways);
      dir = one_of_two way.0;
      start = omega (arith, s, r.few_minutes);
      west = omega arith;
      east = omega (arith, m);
      some_stops = omega arith;
      few_stops = omega (arith, n);
    }

-- a past day that is drawn is 1 to 69
past_drawn : (vid : ℕ) (g : Lcg) → IfSome (drawn_past vid g).0 (λ day. (1 ≤ day) × (day ≤ 69))
past_drawn vid g =
    let d = drawn_below 69 g (omega arith) in
    cond_both (vid % 50 == 0) (Some (1 + (drawn 69 g).0), (drawn 69 g).1) (None, g)
    (λ (p : Option ℕ × Lcg). IfSome p.0 (λ day. (1 ≤ day) × (day ≤ 69))) (λ _. (omega arith, omega (arith, d)))
    (λ _. tt)

-- a trip that is drawn
pub trip_drawn : (plan : GenPlan) → InRange plan → (vid : ℕ) → vid ≤ 5000 → (g : Lcg) → IsTrip (drawn_trip plan vid g).0
trip_drawn plan r vid v g =
    let xway = drawn plan.xways g in
    let way = drawn 4 xway.1 in
    let start = drawn (end_of plan) way.1 in
    let seg = drawn 4 start.1 in
    let reports = drawn 33 seg.1 in
    let speed = drawn 41 reports.1 in
    let x = drawn_below plan.xways g (omega (arith, r.some_xways)) in
    let s = drawn_below (end_of plan) way.1 (omega (arith, r.some_minutes)) in
    let m = drawn_below 4 start.1 (omega arith) in
    let n = drawn_below 33 seg.1 (omega arith) in
    let p = drawn_below 41 reports.1 (omega arith) in
    record {
      vid = v;
      xway = omega (arith, x, r.few_xways);
      dir = one_of_two way.0;
      start = omega (arith, s, r.few_minutes);
      west = omega arith;
      east = omega (arith, m);
      few_reports = omega (arith, n);
      slow = omega (arith, p);
      past = past_drawn vid speed.1;
    }

-- a report in its ranges
report_fine : (time vid spd xway lane dir at : ℕ) → time ≤ 86399 → vid ≤ 5000 → spd ≤ 100 → xway ≤ 255 → lane ≤ 4 →
    dir ≤ 1 → at ≤ 527999 → IsReport (report_at time vid spd xway lane dir at)
report_fine time vid spd xway lane dir at t v s x l d p = (t, omega (arith, v), s, x, l, d, mile at p, p)
  where
    mile : (n : ℕ) → n ≤ 527999 → n / 5280 ≤ 99
    mile n h = omega arith

-- a vehicle stays on the road
on_road : (dir from feet : ℕ) → from + feet ≤ 527999 → moved_on dir from feet ≤ 527999
on_road dir from feet h =
    cond_both (dir == 0) (from + feet) (from - feet) (λ n. n ≤ 527999) (λ _. h) (λ _. omega (arith, h))

module _ (c : Crash) (vid start k : ℕ) where
  -- when a crash's vehicle reports
  pub crash_time : (crash_report c vid start k).time ≡ time_at start k
  crash_time = cond_both (nat_lt k c.stops) (report_at (time_at start k) vid 0 c.xway 2 c.dir (crash_position c)) _
      (λ (r : Report). r.time ≡ time_at start k) (λ _. refl) (λ _. refl)

  pub crash_vid : (crash_report c vid start k).vid ≡ vid
  crash_vid = cond_both (nat_lt k c.stops) (report_at (time_at start k) vid 0 c.xway 2 c.dir (crash_position c)) _
      (λ (r : Report). r.vid ≡ vid) (λ _. refl) (λ _. refl)

  -- its report is in its ranges, before midnight
  pub crash_fine : IsCrash c → vid ≤ 5000 → k < c.stops + 4 → time_at start k ≤ 86399 →
      IsReport (crash_report c vid start k)
  crash_fine is v few t =
      cond_both (nat_lt k c.stops) (report_at (time_at start k) vid 0 c.xway 2 c.dir (crash_position c)) _ IsReport
      (λ _. report_fine (time_at start k) vid 0 c.xway 2 c.dir (crash_position c) t v (omega arith) is.xway
      (omega arith) is.dir (omega (arith, is.east)))
      (λ _. report_fine (time_at start k) vid 30 c.xway (cond (nat_lt (k - c.stops + 1) 4) 2 4) c.dir
      (moved_on c.dir (crash_position c) (1320 * (k - c.stops + 1))) t v (omega arith) is.xway
      (cond_both (nat_lt (k - c.stops + 1) 4) 2 4 (λ l. l ≤ 4) (λ _. omega arith) (λ _. omega arith)) is.dir
      (on_road c.dir (crash_position c) (1320 * (k - c.stops + 1)) (omega (arith, is.east, few))))

-- its lane is one of five
lane_fine : (t : Trip) (k : ℕ) → lane_at t k ≤ 4
lane_fine t k =
    cond_both (k == 0) 0 _ (λ l. l ≤ 4) (λ _. omega arith)
    (λ _. cond_both (k + 1 == t.reports) 4 (1 + t.vid % 3) (λ l. l ≤ 4) (λ _. omega arith) (λ _. third t.vid))
  where
    third : (n : ℕ) → 1 + n % 3 ≤ 4
    third n = let h = mod_below n 3 (omega arith) in omega (arith, h)

-- how far it comes
far : (speed k : ℕ) → speed ≤ 50 → k ≤ 35 → 44 * speed * k ≤ 77000
far speed k s h = mul-le (44 * speed) k 2200 35 (omega (arith, s)) h

-- a trip's report is in its ranges, before midnight
pub trip_fine : (t : Trip) (k : ℕ) → IsTrip t → k < t.reports → time_at t.start k ≤ 86399 → IsReport (trip_report t k)
trip_fine t k is few time =
    let feet = far t.speed k is.slow (omega (arith, few, is.few_reports)) in
    report_fine (time_at t.start k) t.vid t.speed t.xway (lane_at t k) t.dir
    (moved_on t.dir (5280 * t.seg + 100) (44 * t.speed * k)) time is.vid (omega (arith, is.slow)) is.xway
    (lane_fine t k) is.dir
    (on_road t.dir (5280 * t.seg + 100) (44 * t.speed * k) (omega (arith, feet, is.east)))
