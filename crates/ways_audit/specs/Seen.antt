-- What the tuples of a day tell of their vehicles, position by position.
use Rattle.std.specs.Prelude.{ℕ, ◌++◌, ◌∷◌, [], List, map, take, slice_get, Option, Some, None}
use Rattle.road_time.specs.declared.road.Tuple.{Tuple}
use Rattle.road_time.specs.declared.road.Tuple.TheVariants.{Report as ReportTuple, Balance, Spent, Travel}
use Rattle.road_time.specs.declared.road.Report.{Report}
use Rattle.road_time.specs.Tuples.{reports, place_of}
use Rattle.road_time.specs.Sights.{Moment, moments_after, sights_of, previous}
use Rattle.road_time.specs.Stays.{begins}
use Rattle.road_time.specs.Stops.{trail, is_stopped, left_by}
use Rattle.day_floor.specs.declared.tracked.Tracked.{Tracked}
use Rattle.day_floor.specs.Told.{charge_by}

-- what a report tells, after a day's tuples
abbrev pub tracked_of : List Tuple → Report → Tracked
tracked_of day r = record {
  begins = begins (previous (sights_of day r.vid)) r;
  stopped = is_stopped (reports (day ++ ReportTuple r ∷ [])) r.vid (place_of r);
  left = left_by (trail (reports day) r.vid) r;
  charge = charge_by (previous (sights_of day r.vid)) r;
}

-- what a moment tells, if it is a report
abbrev pub tracked_by : Moment → Option Tracked
tracked_by (before, ReportTuple r) = Some (tracked_of before r)
tracked_by (before, Balance time vid qid) = None
tracked_by (before, Spent time vid xway qid day) = None
tracked_by (before, Travel time) = None

-- what a tuple tells after those before it, if there is one and it is a report
abbrev pub tracked_if : List Tuple → Option Tuple → Option Tracked
tracked_if before None = None
tracked_if before (Some x) = tracked_by (before, x)

-- what the report at a position of a day tells of its vehicle; nothing at another position
abbrev pub tracked_at : List Tuple → ℕ → Option Tracked
tracked_at day position = tracked_if (take position day) (slice_get day position)

-- what tuples tell, position by position, after earlier ones
abbrev pub tracked_after : List Tuple → List Tuple → List (Option Tracked)
tracked_after before tuples = map tracked_by (moments_after before tuples)
