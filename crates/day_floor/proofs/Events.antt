-- the events of one tuple more
use Rattle.std.proofs.Common.{◌≡◌, ℕ, ◌≤◌, ◌<◌, ◌==◌, List, [], ◌∷◌, ◌++◌, length, refl, sym, ap, ◌∙◌, arith}
use Rattle.std.proofs.Common.{Some, slice_get, subst}
use Rattle.std.specs.List.{AllByRecursion, flat_map}
use Rattle.std.proofs.lemmas.List.{append_assoc, append-nil}
use Rattle.road_time.specs.declared.road.Tuple.{Tuple}
use Rattle.road_time.specs.declared.road.Tuple.TheVariants.{Report as ReportTuple, Balance, Spent, Travel}
use Rattle.road_time.specs.declared.road.Report.{Report}
use Rattle.road_time.specs.declared.day.Limits.{Limits}
use Rattle.road_time.specs.Ways.{worker_for}
use Rattle.road_time.specs.Sights.{moments, moments_after}
use Rattle.road_time.proofs.EachLaws.{kept, weakened, joined, right_part}
use Rattle.ways_expressway.specs.declared.lane_event.LaneEvent.{LaneEvent}
use Rattle.ways_expressway.specs.Events.{events_at, events_for, told_to, way_told, position_told}
use Rattle.ways_expressway.specs.Results.{AreFirst}
use Rattle.ways_expressway.specs.Runs.{PositionsRise}
use Rattle.ways_expressway.specs.Laws.{IsFrom}
use Rattle.ways_expressway.proofs.PositionLaws.{From, events_rise, events_below, rise_rest, all_from, at_position}
use Rattle.ways_expressway.proofs.RunLaws.{events_for_push}
use Rattle.day_floor.specs.Shares.{State, events_ahead}
use Rattle.day_floor.specs.Sound.{ReportAt, SoundState}

-- and so have a worker's
pub its_position : (before : List Tuple) (x : Tuple) (worker width : ℕ) →
    AllByRecursion (λ e. position_told e ≡ length before) (told_to worker width (events_at (before, x)))
its_position before x worker width =
    kept (λ e. position_told e ≡ length before) (λ e. worker_for (way_told e) width == worker) (events_at (before, x))
    (at_position before x)

-- events of a later position come after
pub from_more : (n at : ℕ) (es new : List LaneEvent) → n ≤ at → IsFrom n es →
    AllByRecursion (λ e. position_told e ≡ at) new → IsFrom n (es ++ new)
from_more n at [] [] h f g = tt
from_more n at [] (e ∷ es) h f g = omega (arith, h, g.0)
from_more n at (e ∷ es) new h f g = f

-- where no event is of a position below n, the first is not
pub from_all : (n : ℕ) (es : List LaneEvent) → From n es → IsFrom n es
from_all n [] h = tt
from_all n (e ∷ es) h = h.0

-- no event that is not back is of a position that is settled
pub all_ahead : (width : ℕ) (limits : Limits) (s : State) → SoundState width limits s → (worker : ℕ) → worker < width →
    From s.settled (events_ahead (s.share worker))
all_ahead width limits s sound worker h =
    let sh = s.share worker in
    all_from s.settled (events_ahead sh)
    (rise_rest sh.back (events_ahead sh)
    (subst (λ es. PositionsRise es) (sound.parts.whole worker h) (events_rise s.fed worker width)))
    (sound.parts.next worker h)

-- and all are of tuples that were fed
pub all_below : (width : ℕ) (limits : Limits) (s : State) → SoundState width limits s → (worker : ℕ) → worker < width →
    AllByRecursion (λ e. position_told e < length s.fed) (events_ahead (s.share worker))
all_below width limits s sound worker h =
    let sh = s.share worker in
    right_part (λ e. position_told e < length s.fed) sh.back (events_ahead sh)
    (subst (AllByRecursion (λ e. position_told e < length s.fed)) (sound.parts.whole worker h)
    (events_below s.fed worker width))

-- an event is of a report
abbrev pub OfReport : List Tuple → LaneEvent → Type 0
OfReport day e = ReportAt day (position_told e)

-- the tuple behind the first ones
next_there : {X : Type 0} (xs ys : List X) (y : X) → slice_get (xs ++ y ∷ ys) (length xs) ≡ Some y
next_there [] ys y = refl
next_there (x ∷ xs) ys y = next_there xs ys y

-- the events of a report are of it
of_report : (day before later : List Tuple) (r : Report) → day ≡ before ++ ReportTuple r ∷ later →
    AllByRecursion (OfReport day) (events_at (before, ReportTuple r))
of_report day before later r e =
    weakened (λ x. position_told x ≡ length before) (OfReport day)
    (λ x at. (
      r,
      subst (λ p. slice_get day p ≡ Some (ReportTuple r)) (sym at)
          (ap (λ d. slice_get d (length before)) e ∙ next_there before later (ReportTuple r)),
    ))
    (events_at (before, ReportTuple r)) (at_position before (ReportTuple r))

-- and so all events are
all_of_reports : (day before xs : List Tuple) → day ≡ before ++ xs →
    AllByRecursion (OfReport day) (flat_map events_at (moments_after before xs))
all_of_reports day before [] e = tt
all_of_reports day before (ReportTuple r ∷ xs) e =
    joined (OfReport day) (events_at (before, ReportTuple r))
    (flat_map events_at (moments_after (before ++ ReportTuple r ∷ []) xs)) (of_report day before xs r e)
    (all_of_reports day (before ++ ReportTuple r ∷ []) xs (e ∙ sym (append_assoc before (ReportTuple r ∷ []) xs)))
all_of_reports day before (Balance time vid qid ∷ xs) e =
    all_of_reports day (before ++ Balance time vid qid ∷ []) xs
    (e ∙ sym (append_assoc before (Balance time vid qid ∷ []) xs))
all_of_reports day before (Spent time vid xway qid of_day ∷ xs) e =
    all_of_reports day (before ++ Spent time vid xway qid of_day ∷ []) xs
    (e ∙ sym (append_assoc before (Spent time vid xway qid of_day ∷ []) xs))
all_of_reports day before (Travel time ∷ xs) e =
    all_of_reports day (before ++ Travel time ∷ []) xs (e ∙ sym (append_assoc before (Travel time ∷ []) xs))

pub events_of_reports : (day : List Tuple) (worker width : ℕ) →
    AllByRecursion (OfReport day) (events_for day worker width)
events_of_reports day worker width =
    kept (OfReport day) (λ e. worker_for (way_told e) width == worker) (flat_map events_at (moments day))
    (all_of_reports day [] day refl)

-- events of more tuples begin with those of the first
pub events_grow : (day later : List Tuple) (worker width : ℕ) →
    AreFirst (events_for day worker width) (events_for (day ++ later) worker width)
events_grow day [] worker width =
    ([], ap (λ d. events_for d worker width) (append-nil day) ∙ sym (append-nil (events_for day worker width)))
events_grow day (x ∷ xs) worker width =
    let rest = events_grow (day ++ x ∷ []) xs worker width in
    let new = told_to worker width (events_at (day, x)) in (
      new ++ rest.0,
      ap (λ d. events_for d worker width) (sym (append_assoc day (x ∷ []) xs)) ∙ rest.1
          ∙ ap (λ es. es ++ rest.0) (events_for_push worker width day x)
          ∙ append_assoc (events_for day worker width) new rest.0,
    )
