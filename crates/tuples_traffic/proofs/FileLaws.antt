-- the whole traffic is a day that is accepted, in the order of lines
use Rattle.std.proofs.Common.{◌≡◌, ℕ, zero, suc, ◌+◌, ◌*◌, ◌≤◌, List, [], length, map, None, refl, arith, sym, subst}
use Rattle.std.proofs.lemmas.List.{length-map}
use Rattle.std.proofs.lemmas.List.Elements.{All-from_recursion, recursion_from_All}
use Rattle.road_time.specs.declared.road.Tuple.{Tuple}
use Rattle.road_time.specs.declared.road.Report.{Report}
use Rattle.road_time.specs.declared.day.TheConstants.Limits.{DAY}
use Rattle.road_time.specs.Tuples.{reports}
use Rattle.road_time.specs.Fits.{IsValid, IsDay, Allowed, vehicles_seen}
use Rattle.road_time.specs.Reads.{reads}
use Rattle.road_time.proofs.NoteLaws.{distinct-le, reports-le}
use Rattle.road_time.proofs.AllowedLaws.{fit_by_time}
use Rattle.road_time.proofs.OrderLaws.{by_time_length}
use Rattle.road_time.proofs.FitLines.{reads_back}
use Rattle.tuples_traffic.specs.declared.plan.GenPlan.{GenPlan}
use Rattle.tuples_traffic.specs.Plans.{InRange, end_of}
use Rattle.tuples_traffic.specs.Crashes.{IsCrash, crash_vehicle, crash_tuples}
use Rattle.tuples_traffic.specs.Trips.{IsTrip, trip_tuples}
use Rattle.tuples_traffic.specs.Turns.{InLineOrder}
use Rattle.tuples_traffic.specs.Traffic.{before_crash, before_trip, crash_of, trip_of, vid_of_trip, trips}
use Rattle.tuples_traffic.specs.Traffic.{crash_traffic}
use Rattle.tuples_traffic.specs.Traffic.{trip_traffic, traffic, generated, file_of}
use Rattle.tuples_traffic.proofs.StepLaws.{no_crash, no_trip, crashes_more, trips_more}
use Rattle.tuples_traffic.proofs.RangeLaws.{crash_drawn, trip_drawn}
use Rattle.tuples_traffic.proofs.TurnLaws.{line_order}
use Rattle.tuples_traffic.proofs.LengthLaws.{lines_length}
use Rattle.tuples_traffic.proofs.FleetLaws.{Fleet, fleets, no_fleet, crash_fleet, trip_fleet}

-- each crash is one that is drawn
crash_is : (plan : GenPlan) → InRange plan → (n : ℕ) → IsCrash (crash_of plan n)
unfolding crash_of
crash_is plan r n = crash_drawn plan r (before_crash plan n)

-- each trip is one that is drawn
trip_is : (plan : GenPlan) → InRange plan → (n : ℕ) → vid_of_trip plan n ≤ 5000 → IsTrip (trip_of plan n)
unfolding trip_of
trip_is plan r n h = trip_drawn plan r (vid_of_trip plan n) h (before_trip plan n)

-- a trip is of its vehicle
trip_vid : (plan : GenPlan) (n : ℕ) → (trip_of plan n).vid ≡ vid_of_trip plan n
unfolding trip_of
trip_vid plan n = refl

module _ (plan : GenPlan) (r : InRange plan) where
  day : end_of plan ≤ 86400
  day = omega (arith, r.few_minutes)

  -- the first crashes
  crashes_so_far : (n : ℕ) → n ≤ plan.crashes → Fleet 1 (2 * n + 1) (crash_traffic plan n)
  crashes_so_far zero h = rw (no_crash plan) (no_fleet 1)
  crashes_so_far (suc n) h =
      let c = crash_of plan n in
      let end = end_of plan in
      let is = crash_is plan r n in
      let first = crash_fleet end (2 * n + 1) (2 * n + 2) c.start c is day (omega (arith, h, r.few_crashes))
      (omega arith) in
      let second = crash_fleet end (2 * n + 2) (2 * suc n + 1) (c.start + 1) c is day (omega (arith, h, r.few_crashes))
      (omega arith) in
      let pair = fleets (2 * n + 1) (2 * n + 2) (2 * suc n + 1) (crash_vehicle end c (2 * n + 1) c.start)
      (crash_vehicle end c (2 * n + 2) (c.start + 1)) first second in
      let all = fleets 1 (2 * n + 1) (2 * suc n + 1) (crash_traffic plan n) (crash_tuples end n c)
      (crashes_so_far n (omega (arith, h))) pair in
      let next : n + 1 ≡ suc n = omega arith in
      subst (λ m. Fleet 1 (2 * suc n + 1) (crash_traffic plan m)) next
      (subst (Fleet 1 (2 * suc n + 1)) (sym (crashes_more plan n)) all)

  -- the first trips
  trips_so_far : (n : ℕ) → n ≤ trips plan →
      Fleet (2 * plan.crashes + 1) (2 * plan.crashes + 1 + n) (trip_traffic plan n)
  trips_so_far zero h =
      rw (no_trip plan) (subst (λ m. Fleet (2 * plan.crashes + 1) m []) nothing (no_fleet (2 * plan.crashes + 1)))
    where
      nothing : 2 * plan.crashes + 1 ≡ 2 * plan.crashes + 1 + zero
      nothing = omega arith
  trips_so_far (suc n) h =
      let low = 2 * plan.crashes + 1 in
      let end = end_of plan in
      let t = trip_of plan n in
      let is = trip_is plan r n (omega (arith, h, r.few_vehicles)) in
      let vid : t.vid ≡ low + n = trip_vid plan n in
      let last =
      subst (λ v. Fleet v (low + suc n) (trip_tuples end t)) vid
      (trip_fleet end (low + suc n) t is day (omega (arith, vid))) in
      let all = fleets low (low + n) (low + suc n) (trip_traffic plan n) (trip_tuples end t)
      (trips_so_far n (omega (arith, h))) last in
      let next : n + 1 ≡ suc n = omega arith in
      subst (λ m. Fleet low (low + suc n) (trip_traffic plan m)) next
      (subst (Fleet low (low + suc n)) (sym (trips_more plan n)) all)

  -- the whole traffic
  pub traffic_fleet : Fleet 1 (2 * plan.crashes + 1 + trips plan) (traffic plan)
  unfolding traffic
  traffic_fleet =
      fleets 1 (2 * plan.crashes + 1) (2 * plan.crashes + 1 + trips plan) (crash_traffic plan plan.crashes)
      (trip_traffic plan (trips plan)) (crashes_so_far plan.crashes (omega arith))
      (trips_so_far (trips plan) (omega arith))

-- no more vehicles than tuples
few_seen : (xs : List Tuple) → length (vehicles_seen xs) ≤ length xs
few_seen xs =
    omega (
      arith,
      distinct-le (map (λ (r : Report). r.vid) (reports xs)),
      length-map (reports xs)
          (λ (r : Report). r.vid),
      reports-le xs,
    )

-- few vehicles are a day that the limits allow
fleet_allowed : (high : ℕ) (xs : List Tuple) → high ≤ 5001 → Fleet 1 high xs → Allowed xs DAY
fleet_allowed high xs few f = record {
  valid = All-from_recursion IsValid xs f.valid;
  lines = omega (arith, f.few, few);
  vehicles = omega (arith, f.few, few, few_seen xs);
  rare = f.rare;
}

-- the vehicles of crashes and trips are those of the plan
last_vehicle : (plan : GenPlan) → InRange plan → 2 * plan.crashes + 1 + trips plan ≤ 5001
last_vehicle plan r = omega (arith, r.few_vehicles, r.pairs)

-- it is a day that the office takes
pub is_day : (plan : GenPlan) → InRange plan → IsDay (generated plan)
unfolding generated
is_day plan r =
    fit_by_time (traffic plan) DAY
    (fleet_allowed (2 * plan.crashes + 1 + trips plan) (traffic plan) (last_vehicle plan r) (traffic_fleet plan r))

-- and its file reads back as it
pub accepted : (plan : GenPlan) → InRange plan → (late : ℕ) →
    reads (file_of plan) DAY late ≡ record { tuples = generated plan; refused = None }
unfolding file_of
accepted plan r late = reads_back (generated plan) DAY late (is_day plan r)

-- in the order of lines
pub in_line_order : (plan : GenPlan) → InRange plan → InLineOrder (generated plan)
unfolding generated
in_line_order plan r = line_order (traffic plan) (traffic_fleet plan r).in_turn

-- of at most so many lines
pub few_lines : (plan : GenPlan) → InRange plan → length (generated plan) ≤ 190000
unfolding generated
few_lines plan r = let f = traffic_fleet plan r in let last = last_vehicle plan r in
    omega (arith, f.few, last, by_time_length (traffic plan))

-- and so many bytes
pub few_bytes : (plan : GenPlan) → InRange plan → length (file_of plan) ≤ 40000000
unfolding file_of
few_bytes plan r =
    let bytes = lines_length (generated plan) (recursion_from_All IsValid (generated plan) (is_day plan r).valid) in
    omega (arith, bytes, few_lines plan r)
