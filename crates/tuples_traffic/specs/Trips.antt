-- Trips: how one is drawn, the reports of its vehicle from entry to exit, and what the vehicle asks.
use Rattle.std.specs.Prelude.{ℕ, ◌+◌, ◌*◌, ◌%◌, ◌==◌, ◌≤◌, ◌<◌, ◌&&◌, nat_lt, Bool, List, [], ◌∷◌, ◌++◌, Option, Some}
use Rattle.std.specs.Prelude.{None, IfSome, if◌then◌else◌}
use Rattle.rand_pcg.specs.Lcg.{Lcg}
use Rattle.road_time.specs.declared.road.Tuple.{Tuple}
use Rattle.road_time.specs.declared.road.Tuple.TheVariants.{Balance, Spent}
use Rattle.road_time.specs.declared.road.Report.{Report}
use Rattle.tuples_traffic.specs.declared.plan.GenPlan.{GenPlan}
use Rattle.tuples_traffic.specs.declared.trip.Trip.{Trip}
use Rattle.day_plan.specs.Draws.{drawn}
use Rattle.tuples_traffic.specs.Directions.{direction_of}
use Rattle.tuples_traffic.specs.Reports.{time_at, moved_on, report_at, reports_before}
use Rattle.tuples_traffic.specs.Plans.{end_of}

-- a past day is drawn for each fiftieth vehicle alone
abbrev pub drawn_past : ℕ → Lcg → Option ℕ × Lcg
drawn_past vid g = if vid % 50 == 0 then (Some (1 + (drawn 69 g).0), (drawn 69 g).1) else (None, g)

-- the draws of a vehicle's trip, and the generator after them
abbrev pub drawn_trip : GenPlan → ℕ → Lcg → Trip × Lcg
drawn_trip plan vid g =
    let xway = drawn plan.xways g in
    let way = drawn 4 xway.1 in
    let start = drawn (end_of plan) way.1 in
    let seg = drawn 4 start.1 in
    let reports = drawn 33 seg.1 in
    let speed = drawn 41 reports.1 in
    let past = drawn_past vid speed.1 in (
      record {
        vid = vid;
        xway = xway.0;
        dir = direction_of way.0;
        start = start.0;
        seg = 40 + seg.0;
        reports =
            4 + reports.0;
        speed = 10 + speed.0;
        past = past.0;
      },
      past.1,
    )

-- what the draws of a trip come to
pub record IsTrip (t : Trip) : Type 0 where
  pub vid : t.vid ≤ 5000
  pub xway : t.xway ≤ 255
  pub dir : t.dir ≤ 1
  pub start : t.start < 86400
  pub west : 40 ≤ t.seg
  pub east : t.seg ≤ 43
  pub few_reports : t.reports ≤ 36
  pub slow : t.speed ≤ 50
  pub past : IfSome t.past (λ day. (1 ≤ day) × (day ≤ 69))

-- the lane of report k: a trip enters by lane 0, leaves by lane 4 and keeps to a lane of its own between
abbrev pub lane_at : Trip → ℕ → ℕ
lane_at t k =
    if k == 0 then 0
    else if k + 1 == t.reports then 4
    else 1 + t.vid % 3

-- report k of a trip: at one mile per hour a vehicle moves 44 feet in 30 seconds
abbrev pub trip_report : Trip → ℕ → Report
trip_report t k =
    report_at (time_at t.start k) t.vid t.speed t.xway (lane_at t k) t.dir
    (moved_on t.dir (5280 * t.seg + 100) (44 * t.speed * k))

-- requests come a second after report 5
abbrev pub asking_time : Trip → ℕ
asking_time t = time_at t.start 5 + 1

-- each tenth vehicle asks for its balance, if it has a report 5 and there is time left
abbrev pub asks : ℕ → Trip → Bool
asks end t = t.vid % 10 == 0 && (nat_lt 5 t.reports && nat_lt (asking_time t) end)

-- the second request of a trip with a past day: what was spent on that day on its expressway
abbrev pub spent_request : Trip → Option ℕ → List Tuple
spent_request t None = []
spent_request t (Some day) = Spent (asking_time t) t.vid t.xway t.vid day ∷ []

-- the requests of a trip, under its vehicle's own number
abbrev pub requests : ℕ → Trip → List Tuple
requests end t = if asks end t then Balance (asking_time t) t.vid t.vid ∷ spent_request t t.past else []

-- the reports and requests of a trip
abbrev pub trip_tuples : ℕ → Trip → List Tuple
trip_tuples end t = reports_before end (trip_report t) t.reports ++ requests end t
