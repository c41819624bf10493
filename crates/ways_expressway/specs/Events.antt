-- The events that a day's tuples cause, the worker that each is for, and what events say of reports and stops.
use Rattle.std.specs.Prelude.{ℕ, ◌==◌, true, false, List, [], ◌∷◌, ◌++◌, length, Option, Some, None}
use Rattle.std.specs.List.{filter, filter_map, flat_map}
use Rattle.road_time.specs.declared.road.Tuple.{Tuple}
use Rattle.road_time.specs.declared.road.Tuple.TheVariants.{Report as ReportTuple, Balance, Spent, Travel}
use Rattle.road_time.specs.declared.road.Report.{Report}
use Rattle.road_time.specs.declared.road.Place.{Place}
use Rattle.road_time.specs.declared.road.Way.{Way}
use Rattle.road_time.specs.Ways.{way_of, worker_for}
use Rattle.road_time.specs.Tuples.{reports, stretch_of, place_of, stretch_around}
use Rattle.road_time.specs.Stops.{trail, stands, left_by}
use Rattle.road_time.specs.Sights.{Moment, moments, sights_of, previous}
use Rattle.road_time.specs.Stays.{begins}
use Rattle.road_time.specs.Entries.{StopEntry}
use Rattle.ways_expressway.specs.declared.lane_event.LaneEvent.{LaneEvent}
use Rattle.ways_expressway.specs.declared.lane_event.LaneEvent.TheVariants.{Seen, Leave}

-- that a report left a place, if it left one
abbrev pub leave_of : ℕ → Report → Option Place → List LaneEvent
leave_of position r None = []
leave_of position r (Some place) = Leave position r.time r.vid place ∷ []

-- the events of a report at a position, after its vehicle's previous report and its earlier ones, the newest first:
-- the place that it left, and then that it was seen
abbrev pub events_of : ℕ → Option Report → List Report → Report → List LaneEvent
events_of position prev own r =
    leave_of position r (left_by own r) ++ Seen position r (begins prev r) (stands (r ∷ own) (place_of r)) ∷ []

-- the events of a moment
abbrev pub events_at : Moment → List LaneEvent
events_at (before, ReportTuple r) =
    events_of (length before) (previous (sights_of before r.vid)) (trail (reports before) r.vid) r
events_at (before, Balance time vid qid) = []
events_at (before, Spent time vid xway qid of_day) = []
events_at (before, Travel time) = []

-- all events of a day, in the order of the positions that cause them
abbrev pub events : List Tuple → List LaneEvent
events day = flat_map events_at (moments day)

-- the way that an event tells of
abbrev pub way_told : LaneEvent → Way
way_told (Seen position r begins stopped) = way_of (stretch_of r)
way_told (Leave position time vid place) = way_of (stretch_around place)

-- the position of an event
abbrev pub position_told : LaneEvent → ℕ
position_told (Seen position r begins stopped) = position
position_told (Leave position time vid place) = position

-- the second of an event
abbrev pub time_told : LaneEvent → ℕ
time_told (Seen position r begins stopped) = r.time
time_told (Leave position time vid place) = time

-- the events for a worker, of so many
abbrev pub told_to : ℕ → ℕ → List LaneEvent → List LaneEvent
told_to worker width es = filter (λ e. worker_for (way_told e) width == worker) es

-- the events of a day for a worker, of so many
abbrev pub events_for : List Tuple → ℕ → ℕ → List LaneEvent
events_for day worker width = told_to worker width (events day)

-- the report that an event tells, if it tells one
abbrev pub report_seen : LaneEvent → Option Report
report_seen (Seen position r begins stopped) = Some r
report_seen (Leave position time vid place) = None

-- the reports that were seen
abbrev pub seen : List LaneEvent → List Report
seen es = filter_map report_seen es

-- what an event says of stops: a report after which its vehicle is stopped is a stop at its place
abbrev pub stop_entry_of : LaneEvent → Option StopEntry
stop_entry_of (Seen position r begins true) =
    Some (record { second = r.time; vid = r.vid; place = place_of r; stops = true })
stop_entry_of (Seen position r begins false) = None
stop_entry_of (Leave position time vid place) = Some (record { second = time; vid = vid; place = place; stops = false })

-- the stops and leaves that the events tell
abbrev pub entries : List LaneEvent → List StopEntry
entries es = filter_map stop_entry_of es
