-- the events of a worker, tuple by tuple
use Rattle.std.proofs.Common.{◌≡◌, ℕ, zero, suc, ◌<◌, ◌==◌, Bool, true, false, cond, List, [], ◌∷◌, ◌++◌, length}
use Rattle.std.proofs.Common.{take, get_or, Option, Some, None, refl, sym, ap, ◌∙◌, arith}
use Rattle.std.specs.List.{flat_map}
use Rattle.std.proofs.lemmas.List.{append-nil, append_assoc}
use Rattle.std.proofs.lemmas.List.Concat.{flat_map-append}
use Rattle.std.proofs.lemmas.List.Elements.{filter-append}
use Rattle.road_time.specs.declared.road.Tuple.{Tuple}
use Rattle.road_time.specs.declared.road.Tuple.TheVariants.{Report as ReportTuple}
use Rattle.road_time.specs.declared.road.Report.{Report}
use Rattle.road_time.specs.declared.road.Place.{Place}
use Rattle.road_time.specs.Tuples.{reports, place_of, stretch_of, stretch_around}
use Rattle.road_time.specs.Sights.{moments, sights_of, previous}
use Rattle.road_time.specs.Stays.{begins}
use Rattle.road_time.specs.Stops.{trail, stands, left_by}
use Rattle.road_time.specs.Ways.{way_of, worker_for}
use Rattle.road_time.proofs.SightLaws.{moments_push}
use Rattle.day_floor.specs.declared.tracked.Tracked.{Tracked}
use Rattle.ways_expressway.specs.declared.lane_event.LaneEvent.{LaneEvent}
use Rattle.ways_expressway.specs.declared.lane_event.LaneEvent.TheVariants.{Seen, Leave}
use Rattle.ways_expressway.specs.Events.{events_at, events_for, told_to, leave_of, events, way_told}
use Rattle.ways_audit.specs.Seen.{tracked_of, tracked_by, tracked_after}
use Rattle.ways_audit.specs.Routing.{tracked_events}
use Rattle.day_floor.proofs.DayLaws.{trail_more}

-- the events of a report are those of what it tells
pub events_are : (before : List Tuple) (r : Report) →
    tracked_events (length before) r (tracked_of before r) ≡ events_at (before, ReportTuple r)
events_are before r =
    ap (λ own. leave_of (length before) r (left_by (trail (reports before) r.vid) r) ++ Seen (length before) r
    (begins (previous (sights_of before r.vid)) r) (stands own (place_of r)) ∷ [])
    (trail_more before r)

-- a worker's events of a report that left no place
pub seen_told : (w own width position : ℕ) (r : Report) (t : Tracked) → own ≡ worker_for (way_of (stretch_of r)) width →
    t.left ≡ None → cond (own == w) (Seen position r t.begins t.stopped ∷ []) []
    ≡ told_to w width (tracked_events position r t)
seen_told w own width position r t is none =
    let seen = Seen position r t.begins t.stopped in
    ap (λ v. cond (v == w) (seen ∷ []) []) is
    ∙ sym (ap (λ left. told_to w width (leave_of position r left ++ seen ∷ [])) none)

first_told : (b : Bool) (e : LaneEvent) (es : List LaneEvent) → cond b (e ∷ []) [] ++ es ≡ cond b (e ∷ es) es
first_told true e es = refl
first_told false e es = refl

-- and of one that left one
pub both_told : (w own other width position : ℕ) (r : Report) (t : Tracked) (p : Place) →
    own ≡ worker_for (way_of (stretch_of r)) width → other ≡ worker_for (way_of (stretch_around p)) width →
    t.left ≡ Some p → cond (other == w) (Leave position r.time r.vid p ∷ []) []
    ++ cond (own == w) (Seen position r t.begins t.stopped ∷ []) [] ≡ told_to w width (tracked_events position r t)
both_told w own other width position r t p is left_is some =
    let seen = Seen position r t.begins t.stopped in
    let leave = Leave position r.time r.vid p in
    first_told (other == w) leave (cond (own == w) (seen ∷ []) [])
    ∙ ap (λ v. cond (v == w) (leave ∷ cond (own == w) (seen ∷ []) []) (cond (own == w) (seen ∷ []) [])) left_is
    ∙ ap (λ v. cond (worker_for (way_of (stretch_around p)) width == w) (leave ∷ cond (v == w) (seen ∷ []) [])
    (cond (v == w) (seen ∷ []) [])) is
    ∙ sym (ap (λ left. told_to w width (leave_of position r left ++ seen ∷ [])) some)

-- one answer
pub same_told : (t u : Tracked) → ◌≡◌ {A = Option Tracked} (Some t) (Some u) → t ≡ u
same_told t u e = cc

-- and so of a tuple that is a report
pub add_is : (worker width position : ℕ) (before : List Tuple) (x : Tuple) (r : Report) (t : Tracked)
    (o : Option Tracked) → x ≡ ReportTuple r → o ≡ Some t → length before ≡ position → o ≡ tracked_by (before, x) →
    told_to worker width (tracked_events position r t) ≡ told_to worker width (events_at (before, x))
add_is worker width position before x r t o is some at told =
    let same : t ≡ tracked_of before r =
    same_told t (tracked_of before r) (sym some ∙ told ∙ ap (λ y. tracked_by (before, y)) is) in
    ap (λ p. told_to worker width (tracked_events p r t)) (sym at)
    ∙ ap (λ u. told_to worker width (tracked_events (length before) r u)) same
    ∙ ap (told_to worker width) (events_are before r) ∙ sym (ap (λ y. told_to worker width (events_at (before, y))) is)

-- the events of one more tuple
pub route_push : (worker width : ℕ) (day : List Tuple) (x : Tuple) →
    events_for (day ++ x ∷ []) worker width ≡ events_for day worker width ++ told_to worker width (events_at (day, x))
route_push worker width day x =
    ap (λ ms. told_to worker width (flat_map events_at ms)) (moments_push day x)
    ∙ ap (told_to worker width) (flat_map-append events_at (moments day) ((day, x) ∷ [])
    ∙ ap (λ es. events day ++ es) (append-nil (events_at (day, x))))
    ∙ filter-append (λ e. worker_for (way_told e) width == worker) (events day) (events_at (day, x))

-- what the tuple at a place tells
pub tracked_here : (before day : List Tuple) (i : ℕ) (d : Tuple) (e : Option Tracked) → i < length day →
    get_or (tracked_after before day) i e ≡ tracked_by (before ++ take i day, get_or day i d)
tracked_here before [] i d e h = absurd (omega arith)
tracked_here before (x ∷ xs) zero d e h = ap (λ zs. tracked_by (zs, x)) (sym (append-nil before))
tracked_here before (x ∷ xs) (suc i) d e h =
    tracked_here (before ++ x ∷ []) xs i d e (omega arith)
    ∙ ap (λ zs. tracked_by (zs, get_or xs i d)) (append_assoc before (x ∷ []) (take i xs))

-- and so in a list of what a day tells
pub shown_here : (day : List Tuple) (tracked : List (Option Tracked)) (i : ℕ) (d : Tuple) (e : Option Tracked) →
    tracked ≡ tracked_after [] day → i < length day → get_or tracked i e ≡ tracked_by (take i day, get_or day i d)
shown_here day tracked i d e are h = ap (λ l. get_or l i e) are ∙ tracked_here [] day i d e h

-- what stands for a tuple where there is none
abbrev pub no_tuple : Tuple
no_tuple = ReportTuple (record { time = 0; vid = 0; spd = 0; xway = 0; lane = 0; dir = 0; seg = 0; pos = 0 })
