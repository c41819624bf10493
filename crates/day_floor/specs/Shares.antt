-- The state of a floor: what was fed, found and settled, each worker's share of the events, and the mark.
use Rattle.std.specs.Prelude.{ℕ, ◌+◌, ◌&&◌, min, not, Bool, true, false, zero, suc, List, [], ◌∷◌, ◌++◌, length}
use Rattle.road_time.specs.declared.road.Tuple.{Tuple}
use Rattle.road_time.specs.Tolls.{StretchTold}
use Rattle.ways_expressway.specs.declared.lane_event.LaneEvent.{LaneEvent}
use Rattle.ways_expressway.specs.Events.{position_told}

-- a worker's events: those whose findings are back, those that are out as a job, and those that wait; and the number
-- of the job given last
pub record Share : Type 0 where
  pub back : List LaneEvent
  pub out : List LaneEvent
  pub waiting : List LaneEvent
  pub number : ℕ

-- the events that are not back
abbrev pub events_ahead : Share → List LaneEvent
events_ahead share = share.out ++ share.waiting

-- a job that was started: its worker, its number and its events
pub record JobStart : Type 0 where
  pub worker : ℕ
  pub number : ℕ
  pub events : List LaneEvent

-- the tuples fed, the findings given back in the order in which they came, each worker's share, how many jobs were
-- given, how many positions are settled, the jobs that were started, in their order, and the workers whose job is out,
-- in the order of their starts
pub record State : Type 0 where
  pub fed : List Tuple
  pub found : List (ℕ × StretchTold)
  pub share : ℕ → Share
  pub given : ℕ
  pub settled : ℕ
  pub starts : List JobStart
  pub outs : List ℕ

-- the events of a worker that are back
abbrev pub back_of : State → ℕ → List LaneEvent
back_of s worker = (s.share worker).back

-- the events of a worker that are not back
abbrev pub ahead_of : State → ℕ → List LaneEvent
ahead_of s worker = events_ahead (s.share worker)

-- a worker's share before anything was fed
abbrev pub idle : Share
idle = record { back = []; out = []; waiting = []; number = 0 }

-- the state before anything was fed
abbrev pub start : State
start = record { fed = []; found = []; share = λ worker. idle; given = 0; settled = 0; starts = []; outs = [] }

-- whether there are no events
abbrev pub is_empty : List LaneEvent → Bool
is_empty [] = true
is_empty (e ∷ es) = false

-- a worker may be given a job: none of its is out, and events wait
abbrev pub can_give : Share → Bool
can_give share = is_empty share.out && not (is_empty share.waiting)

-- the lesser of a number and the position of the first event, if there is one
abbrev pub least_with : List LaneEvent → ℕ → ℕ
least_with [] n = n
least_with (e ∷ es) n = min (position_told e) n

-- the least, over the first so many workers, of the position of the first event that is not back, and the number fed
abbrev pub least_of : (ℕ → Share) → ℕ → ℕ → ℕ
least_of share zero fed = fed
least_of share (suc worker) fed = least_with (events_ahead (share worker)) (least_of share worker fed)

-- the mark: all positions below it are done
abbrev pub mark : ℕ → State → ℕ
mark width s = least_of s.share width (length s.fed)

-- how many events wait at the first so many workers
abbrev pub waiting_at : (ℕ → Share) → ℕ → ℕ
waiting_at share zero = 0
waiting_at share (suc worker) = length (share worker).waiting + waiting_at share worker
