-- a worker's events are in the order of their positions
use Rattle.std.proofs.Common.{◌≡◌, ℕ, ◌+◌, ◌≤◌, ◌<◌, ◌==◌, Bool, true, false, cond, List, [], ◌∷◌, ◌++◌, length, refl}
use Rattle.std.proofs.Common.{arith, Option, Some, None}
use Rattle.std.specs.List.{filter, flat_map, AllByRecursion}
use Rattle.std.proofs.lemmas.List.{length_push}
use Rattle.road_time.specs.declared.road.Tuple.{Tuple}
use Rattle.road_time.specs.declared.road.Tuple.TheVariants.{Report as ReportTuple, Balance, Spent, Travel}
use Rattle.road_time.specs.declared.road.Report.{Report}
use Rattle.road_time.specs.declared.road.Place.{Place}
use Rattle.road_time.specs.Ways.{worker_for}
use Rattle.road_time.specs.Tuples.{reports}
use Rattle.road_time.specs.Sights.{moments_after}
use Rattle.road_time.specs.Stops.{trail, left_by}
use Rattle.road_time.proofs.EachLaws.{joined, kept, weakened}
use Rattle.ways_expressway.specs.declared.lane_event.LaneEvent.{LaneEvent}
use Rattle.ways_expressway.specs.declared.lane_event.LaneEvent.TheVariants.{Seen}
use Rattle.ways_expressway.specs.Events.{events, events_at, events_for, leave_of, way_told, position_told}
use Rattle.ways_expressway.specs.Runs.{PositionsRise}
use Rattle.ways_expressway.specs.Laws.{IsFrom}

-- no event is of a position below n
abbrev pub From : ℕ → List LaneEvent → Type 0
From n es = AllByRecursion (λ e. n ≤ position_told e) es

-- each event is of a position below n
abbrev Below : ℕ → List LaneEvent → Type 0
Below n es = AllByRecursion (λ e. position_told e < n) es

-- the events of a report have its position
pub leave_position : (position : ℕ) (r : Report) (o : Option Place) (b s : Bool) →
    AllByRecursion (λ e. position_told e ≡ position) (leave_of position r o ++ Seen position r b s ∷ [])
leave_position position r None b s = (refl, tt)
leave_position position r (Some place) b s = (refl, (refl, tt))

-- the events of a tuple have its position
pub at_position : (before : List Tuple) (x : Tuple) →
    AllByRecursion (λ e. position_told e ≡ length before) (events_at (before, x))
at_position before (ReportTuple r) = leave_position (length before) r (left_by (trail (reports before) r.vid) r) _ _
at_position before (Balance time vid qid) = tt
at_position before (Spent time vid xway qid of_day) = tt
at_position before (Travel time) = tt

-- events of one position, and then rising ones of none lower, rise
rise_joined : (n : ℕ) (es later : List LaneEvent) → AllByRecursion (λ e. position_told e ≡ n) es → From n later →
    PositionsRise later → PositionsRise (es ++ later)
rise_joined n [] later h g rise = rise
rise_joined n (e ∷ es) later h g rise = (
  joined (λ f. position_told e ≤ position_told f) es later
      (weakened (λ f. position_told f ≡ n) (λ f. position_told e ≤ position_told f) (λ f same. omega (arith, same, h.0))
      es h.1)
      (weakened (λ f. n ≤ position_told f) (λ f. position_told e ≤ position_told f) (λ f more. omega (arith, more, h.0))
      later g),
  rise_joined n es later h.1 g rise,
)

-- the events of tuples after others
abbrev after : List Tuple → List Tuple → List LaneEvent
after before day = flat_map events_at (moments_after before day)

-- a lower bound of positions may be one less
from_less : (before : List Tuple) (x : Tuple) (es : List LaneEvent) → From (length (before ++ x ∷ [])) es →
    From (length before) es
from_less before x es h =
    weakened (λ e. length (before ++ x ∷ []) ≤ position_told e) (λ e. length before ≤ position_told e)
    (λ e more. omega (arith, more, length_push before x)) es h

-- they are of no position before their tuples
from_after : (before day : List Tuple) → From (length before) (after before day)
from_after before [] = tt
from_after before (x ∷ xs) =
    joined (λ e. length before ≤ position_told e) (events_at (before, x)) (after (before ++ x ∷ []) xs)
    (weakened (λ e. position_told e ≡ length before) (λ e. length before ≤ position_told e)
    (λ e same. omega (arith, same)) (events_at (before, x)) (at_position before x))
    (from_less before x (after (before ++ x ∷ []) xs) (from_after (before ++ x ∷ []) xs))

-- they rise
rise_after : (before day : List Tuple) → PositionsRise (after before day)
rise_after before [] = tt
rise_after before (x ∷ xs) =
    rise_joined (length before) (events_at (before, x)) (after (before ++ x ∷ []) xs) (at_position before x)
    (from_less before x (after (before ++ x ∷ []) xs) (from_after (before ++ x ∷ []) xs))
    (rise_after (before ++ x ∷ []) xs)

-- they are of no position after their tuples
below_after : (n : ℕ) (before day : List Tuple) → length before + length day ≤ n → Below n (after before day)
below_after n before [] h = tt
below_after n before (x ∷ xs) h =
    joined (λ e. position_told e < n) (events_at (before, x)) (after (before ++ x ∷ []) xs)
    (weakened (λ e. position_told e ≡ length before) (λ e. position_told e < n) (λ e same. omega (arith, same, h))
    (events_at (before, x)) (at_position before x))
    (below_after n (before ++ x ∷ []) xs (omega (arith, h, length_push before x)))

-- one event more or less in front
rise_step : (b : Bool) (e : LaneEvent) (es : List LaneEvent) →
    AllByRecursion (λ f. position_told e ≤ position_told f) es → PositionsRise es → PositionsRise (cond b (e ∷ es) es)
rise_step true e es h g = (h, g)
rise_step false e es h g = g

-- some of rising events rise
rise_kept : (p : LaneEvent → Bool) (es : List LaneEvent) → PositionsRise es → PositionsRise (filter p es)
rise_kept p [] h = tt
rise_kept p (e ∷ es) h = rise_step (p e) e (filter p es) (kept (λ f. position_told e ≤ position_told f) p es h.0)
    (rise_kept p es h.1)

-- a worker's events rise
pub events_rise : (day : List Tuple) (worker width : ℕ) → PositionsRise (events_for day worker width)
events_rise day worker width = rise_kept (λ e. worker_for (way_told e) width == worker) (events day) (rise_after [] day)

-- and are of positions of the day
pub events_below : (day : List Tuple) (worker width : ℕ) → Below (length day) (events_for day worker width)
events_below day worker width = kept (λ e. position_told e < length day) (λ e. worker_for (way_told e) width == worker)
    (events day) (below_after (length day) [] day (omega arith))

-- the rest of events that rise
pub rise_rest : (es later : List LaneEvent) → PositionsRise (es ++ later) → PositionsRise later
rise_rest [] later h = h
rise_rest (e ∷ es) later h = rise_rest es later h.1

-- where events rise, none is of a lower position than the first
pub all_from : (n : ℕ) (es : List LaneEvent) → PositionsRise es → IsFrom n es → From n es
all_from n [] h g = tt
all_from n (e ∷ es) h g = (
  g,
  weakened (λ f. position_told e ≤ position_told f) (λ f. n ≤ position_told f) (λ f more. omega (arith, more, g))
      es h.0,
)
