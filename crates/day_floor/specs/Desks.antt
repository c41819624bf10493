-- The events that wait at each worker's desk, and what a report brings to them.
use Rattle.std.specs.Prelude.{◌≡◌, ℕ, ◌+◌, ◌≤◌, List, [], ◌∷◌, ◌++◌, Option, Some, None, slice_get, vec_len}
use Rattle.std.specs.Prelude.{vec_capacity, length}
use Rattle.road_time.specs.declared.road.Tuple.{Tuple}
use Rattle.road_time.specs.declared.road.Report.{Report}
use Rattle.road_time.specs.declared.day.Limits.{Limits}
use Rattle.road_time.specs.Fits.{Fit}
use Rattle.road_time.specs.Tuples.{reports}
use Rattle.day_floor.specs.Stands.{StandsFor as TrackerStandsFor}
use Rattle.day_floor.specs.declared.tracked.Tracked.{Tracked}
use Rattle.ways_expressway.specs.declared.lane_event.LaneEvent.{LaneEvent}
use Rattle.ways_expressway.specs.declared.lane_event.LaneEvent.TheVariants.{Seen}
use Rattle.ways_expressway.specs.Events.{leave_of, position_told}
use Rattle.day_floor.specs.declared.desk.WorkerDesk.{WorkerDesk}
use Rattle.day_floor.specs.declared.inboxes.Inboxes.{Inboxes}
use Rattle.day_floor.specs.Shares.{Share}

-- the position of the first event
abbrev pub first_of : List LaneEvent → Option ℕ
first_of [] = None
first_of (e ∷ es) = Some (position_told e)

-- the desk has the worker's events that wait, and the position of the first one that is out
pub record IsDesk (d : WorkerDesk) (share : Share) : Type 0 where
  pub inbox : d.inbox.items ≡ share.waiting
  pub first_out : d.first_out ≡ first_of share.out

-- the desk of the worker with this number, if there is one, has its share
abbrev pub IsDeskAt : List WorkerDesk → ℕ → Share → Type 0
IsDeskAt desks w share = (d : WorkerDesk) → slice_get desks w ≡ Some d → IsDesk d share

-- the worker's inbox has room for n events
abbrev pub HasInboxRoom : ℕ → List WorkerDesk → ℕ → Type 0
HasInboxRoom n desks w = (d : WorkerDesk) → slice_get desks w ≡ Some d → vec_len d.inbox + n ≤ vec_capacity d.inbox

-- a share with more events that wait
abbrev pub with_events : List LaneEvent → Share → Share
with_events es share =
    record { back = share.back; out = share.out; waiting = share.waiting ++ es; number = share.number }

-- the events of a report, by what the tracker tells of it
abbrev pub tracked_events : ℕ → Report → Tracked → List LaneEvent
tracked_events position r tracked =
    leave_of position r tracked.left ++ Seen position r tracked.begins tracked.stopped ∷ []

-- inboxes after these tuples: the tracker stands for their reports, and each desk for its worker's share
pub record StandFor (i : Inboxes) (day : List Tuple) (share : ℕ → Share) : Type 0 where
  pub width : vec_len i.desks ≡ i.width
  pub some : 1 ≤ i.width
  pub few : i.width ≤ 64
  pub tracker : TrackerStandsFor i.tracker (reports day)
  pub desks : (w : ℕ) → IsDeskAt i.desks.items w (share w)

-- a tuple may come in at this position: the day with it is one that some limits allow
pub record MayCome (i : Inboxes) (position : ℕ) (x : Tuple) : Type 0 where
  pub day : List Tuple
  pub share : ℕ → Share
  pub limits : Limits
  pub stand : StandFor i day share
  pub fit : Fit (day ++ x ∷ []) limits
  pub position_is : length day ≡ position
