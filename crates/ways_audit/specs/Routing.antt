-- The events of a report, by what it tells, and of each worker.
use Rattle.std.specs.Prelude.{◌≡◌, ℕ, ◌≤◌, List, [], ◌∷◌, ◌++◌, Some, slice_get}
use Rattle.road_time.specs.declared.road.Tuple.{Tuple}
use Rattle.road_time.specs.declared.road.Report.{Report}
use Rattle.day_floor.specs.declared.tracked.Tracked.{Tracked}
use Rattle.ways_expressway.specs.declared.lane_event.LaneEvent.{LaneEvent}
use Rattle.ways_expressway.specs.declared.lane_event.LaneEvent.TheVariants.{Seen}
use Rattle.ways_expressway.specs.Events.{leave_of, events_for}
use Rattle.ways_audit.specs.declared.routing.WorkerEvents.{WorkerEvents}

-- the events of a report at a position, by what it tells of its vehicle
abbrev pub tracked_events : ℕ → Report → Tracked → List LaneEvent
tracked_events position r t = leave_of position r t.left ++ Seen position r t.begins t.stopped ∷ []

-- the worker with this number, if there is one, has these events
abbrev pub HasEvents : List WorkerEvents → ℕ → List LaneEvent → Type 0
HasEvents lists w es = (d : WorkerEvents) → slice_get lists w ≡ Some d → d.events.items ≡ es

-- each worker from this number on has the events of a day that are for it, of so many workers
abbrev pub HaveEvents : List WorkerEvents → List Tuple → ℕ → ℕ → Type 0
HaveEvents lists day width from = (w : ℕ) → from ≤ w → HasEvents lists w (events_for day w width)
