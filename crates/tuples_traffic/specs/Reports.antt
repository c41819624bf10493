-- The reports of a vehicle, one every 30 seconds up to the end of the traffic.
use Rattle.std.specs.Prelude.{ℕ, ◌+◌, ◌-◌, ◌*◌, ◌/◌, ◌==◌, nat_lt, List, map, filter, if◌then◌else◌}
use Rattle.std.specs.List.{range_with_len}
use Rattle.road_time.specs.declared.road.Tuple.{Tuple}
use Rattle.road_time.specs.declared.road.Tuple.TheVariants.{Report as ReportTuple}
use Rattle.road_time.specs.declared.road.Report.{Report}
use Rattle.road_time.specs.Tuples.{time_of}

-- the Time of a vehicle's report k, where its first is at the start
abbrev pub time_at : ℕ → ℕ → ℕ
time_at start k = start + 30 * k

-- the position so many feet further on, to the east or to the west
abbrev pub moved_on : ℕ → ℕ → ℕ → ℕ
moved_on dir from feet = if dir == 0 then from + feet else from - feet

-- a report: its segment is the mile in which its position lies
abbrev pub report_at : ℕ → ℕ → ℕ → ℕ → ℕ → ℕ → ℕ → Report
report_at time vid spd xway lane dir at =
    record { time = time; vid = vid; spd = spd; xway = xway; lane = lane; dir = dir; seg = at / 5280; pos = at }

-- the first n reports of a vehicle, those left out that are not before the end
abbrev pub reports_before : ℕ → (ℕ → Report) → ℕ → List Tuple
reports_before end report n =
    filter (λ x. nat_lt (time_of x) end) (map (λ k. ReportTuple (report k)) (range_with_len 0 n))
