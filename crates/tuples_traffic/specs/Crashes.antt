-- Crashes: how one is drawn, and the reports of the two vehicles that stand at one place.
use Rattle.std.specs.Prelude.{ℕ, ◌+◌, ◌-◌, ◌*◌, ◌≤◌, ◌<◌, nat_lt, List, ◌++◌, if◌then◌else◌}
use Rattle.rand_pcg.specs.Lcg.{Lcg}
use Rattle.road_time.specs.declared.road.Tuple.{Tuple}
use Rattle.road_time.specs.declared.road.Report.{Report}
use Rattle.tuples_traffic.specs.declared.plan.GenPlan.{GenPlan}
use Rattle.tuples_traffic.specs.declared.crash.Crash.{Crash}
use Rattle.day_plan.specs.Draws.{drawn}
use Rattle.tuples_traffic.specs.Directions.{direction_of}
use Rattle.tuples_traffic.specs.Reports.{time_at, moved_on, report_at, reports_before}

-- the five draws of a crash, and the generator after them
abbrev pub drawn_crash : GenPlan → Lcg → Crash × Lcg
drawn_crash plan g =
    let xway = drawn plan.xways g in
    let way = drawn 4 xway.1 in
    let start = drawn (30 * plan.minutes) way.1 in
    let seg = drawn 4 start.1 in
    let stops = drawn 8 seg.1 in (
      record { xway = xway.0; dir = direction_of way.0; start = start.0; seg = 44 + seg.0; stops = 8 + stops.0 },
      stops.1,
    )

-- what the draws of a crash come to
pub record IsCrash (c : Crash) : Type 0 where
  pub xway : c.xway ≤ 255
  pub dir : c.dir ≤ 1
  pub start : c.start < 43200
  pub west : 44 ≤ c.seg
  pub east : c.seg ≤ 47
  pub some_stops : 8 ≤ c.stops
  pub few_stops : c.stops ≤ 15

-- the middle of the segment in which the vehicles of a crash stand
abbrev pub crash_position : Crash → ℕ
crash_position c = 5280 * c.seg + 2640

-- report k of a vehicle of a crash: it stands, then it drives on and leaves the road with its last report
abbrev pub crash_report : Crash → ℕ → ℕ → ℕ → Report
crash_report c vid start k =
    if nat_lt k c.stops then report_at (time_at start k) vid 0 c.xway 2 c.dir (crash_position c)
    else (
    let j = k - c.stops + 1
    in report_at (time_at start k) vid 30 c.xway (if nat_lt j 4 then 2 else 4) c.dir
    (moved_on c.dir (crash_position c) (1320 * j))
    )

-- the reports of one of the vehicles of a crash
abbrev pub crash_vehicle : ℕ → Crash → ℕ → ℕ → List Tuple
crash_vehicle end c vid start = reports_before end (crash_report c vid start) (c.stops + 4)

-- the reports of both vehicles of the crash with this number from 0: the second comes a second later
abbrev pub crash_tuples : ℕ → ℕ → Crash → List Tuple
crash_tuples end number c = crash_vehicle end c (2 * number + 1) c.start ++ crash_vehicle end c (2 * number + 2)
    (c.start + 1)
