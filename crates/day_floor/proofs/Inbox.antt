-- desks, when events come to wait and jobs go out
use Rattle.std.proofs.Common.{◌≡◌, ℕ, ◌<◌, ◌≤◌, ◌==◌, ◌&&◌, not, ⊎_elim, zero, suc, min, Bool, true, false, cond, List}
use Rattle.std.proofs.Common.{[], ◌∷◌, ◌++◌, length, reverse, slice_get, slice_set, Option, Some, None, IfSome, Result}
use Rattle.std.proofs.Common.{Ok, Err, refl, sym, ap, ◌∙◌, arith, subst}
use Rattle.std.specs.List.{AllByRecursion}
use Rattle.std.specs.Result.{OnOk}
use Rattle.std.proofs.lemmas.List.{append_assoc, append-nil}
use Rattle.std.proofs.lemmas.List.Elements.{recursion_from_All}
use Rattle.std.proofs.lemmas.Bool.{cases_eq, eq-eqb, ne_eqb}
use Rattle.road_time.specs.declared.road.Tuple.{Tuple}
use Rattle.road_time.specs.declared.road.Tuple.TheVariants.{Report as ReportTuple, Balance, Spent, Travel}
use Rattle.road_time.specs.declared.road.Report.{Report}
use Rattle.road_time.specs.declared.road.Place.{Place}
use Rattle.road_time.specs.declared.day.Limits.{Limits}
use Rattle.road_time.specs.Fits.{Fit, IsValid, IsReport}
use Rattle.road_time.specs.Ways.{way_of, worker_for}
use Rattle.road_time.specs.Tuples.{reports, place_of, stretch_of, stretch_around, same_place}
use Rattle.road_time.specs.Sights.{sights_of, previous}
use Rattle.road_time.specs.Stays.{begins}
use Rattle.road_time.specs.Stops.{trail, stands, left_by}
use Rattle.road_time.proofs.EachLaws.{left_part, turned, kept}
use Rattle.day_floor.specs.declared.tracked.Tracked.{Tracked}
use Rattle.day_floor.specs.Told.{charge_by, IsTracked}
use Rattle.day_floor.proofs.DayLaws.{newest_is, told_is_of_the_day}
use Rattle.ways_expressway.specs.declared.lane_event.LaneEvent.{LaneEvent}
use Rattle.ways_expressway.specs.declared.lane_event.LaneEvent.TheVariants.{Seen, Leave}
use Rattle.ways_expressway.specs.Events.{events_at, told_to, leave_of, position_told}
use Rattle.day_floor.specs.declared.desk.WorkerDesk.{WorkerDesk}
use Rattle.day_floor.specs.declared.due_slot.Due.TheVariants.{Report as ReportDue}
use Rattle.day_floor.specs.Slots.{due_of}
use Rattle.day_floor.specs.Shares.{Share, least_with}
use Rattle.day_floor.specs.Desks.{first_of, IsDesk, IsDeskAt, with_events, tracked_events}

pub set_same : {X : Type 0} (xs : List X) (k : ℕ) (y : X) → k < length xs → slice_get (slice_set xs k y) k ≡ Some y
set_same [] k y h = absurd (omega (arith, h))
set_same (x ∷ xs) zero y h = refl
set_same (x ∷ xs) (suc k) y h = set_same xs k y (omega (arith, h))

pub set_other : {X : Type 0} (xs : List X) (k i : ℕ) (y : X) → (i ≡ k → ⊥) →
    slice_get (slice_set xs k y) i ≡ slice_get xs i
set_other [] k i y h = refl
set_other (x ∷ xs) zero zero y h = absurd (h refl)
set_other (x ∷ xs) zero (suc i) y h = refl
set_other (x ∷ xs) (suc k) zero y h = refl
set_other (x ∷ xs) (suc k) (suc i) y h = set_other xs k i y (λ e. h (ap suc e))

-- a desk that changes as its share does
pub desk_changed : (desks : List WorkerDesk) (k i : ℕ) (old new : WorkerDesk) (change : Share → Share) → i ≡ k →
    k < length desks → slice_get desks k ≡ Some old → ((share : Share) → IsDesk old share → IsDesk new (change share)) →
    (w : ℕ) (share : Share) → IsDeskAt desks w share →
    IsDeskAt (slice_set desks i new) w (cond (w == k) (change share) share)
desk_changed desks k i old new change same_place high was steps w share st d found =
    let here : slice_get (slice_set desks k new) w ≡ Some d =
    subst (λ j. slice_get (slice_set desks j new) w ≡ Some d) same_place found in
    ⊎_elim
    (λ e.
    let now : slice_get (slice_set desks k new) k ≡ Some d =
    subst (λ j. slice_get (slice_set desks k new) j ≡ Some d) e here in
    let same : new ≡ d = cc (set_same desks k new high) in
    let was_at : slice_get desks w ≡ Some old = subst (λ j. slice_get desks j ≡ Some old) (sym e) was in
    subst (IsDesk d) (sym (ap (λ b. cond b (change share) share) (eq-eqb w k e)))
    (subst (λ x. IsDesk x (change share)) same (steps share (st old was_at))))
    (λ e. subst (IsDesk d) (sym (ap (λ b. cond b (change share) share) (ne_eqb w k e)))
    (st d (sym (set_other desks k w new e) ∙ here)))
    (cases_eq w k)

-- a desk shows no more of a share than what waits and what is out
pub same_desk : (d : WorkerDesk) (a b : Share) → a.waiting ≡ b.waiting → a.out ≡ b.out → IsDesk d a → IsDesk d b
same_desk d a b w o h = record { inbox = h.inbox ∙ w; first_out = h.first_out ∙ ap first_of o }

-- one event more, if it is the worker's
one_more : (w own : ℕ) (e : LaneEvent) (d : WorkerDesk) (share : Share) →
    IsDesk d (cond (w == own) (with_events (e ∷ []) share) share) →
    IsDesk d (with_events (cond (own == w) (e ∷ []) []) share)
one_more w own e d share h =
    ⊎_elim
    (λ q. subst (λ b. IsDesk d (with_events (cond b (e ∷ []) []) share)) (sym (eq-eqb own w (sym q)))
    (subst (λ b. IsDesk d (cond b (with_events (e ∷ []) share) share)) (eq-eqb w own q) h))
    (λ q. subst (λ b. IsDesk d (with_events (cond b (e ∷ []) []) share)) (sym (ne_eqb own w (λ r. absurd (q (sym r)))))
    (same_desk d share (with_events [] share) (sym (append-nil share.waiting)) refl
    (subst (λ b. IsDesk d (cond b (with_events (e ∷ []) share) share)) (ne_eqb w own q) h)))
    (cases_eq w own)

-- and events after it
then_more : (b : Bool) (e : LaneEvent) (es : List LaneEvent) (d : WorkerDesk) (share : Share) →
    IsDesk d (with_events es (cond b (with_events (e ∷ []) share) share)) →
    IsDesk d (with_events (cond b (e ∷ es) es) share)
then_more true e es d share h = same_desk d (with_events es (with_events (e ∷ []) share)) (with_events (e ∷ es) share)
    (append_assoc share.waiting (e ∷ []) es) refl h
then_more false e es d share h = h

-- whether two numbers are the same, from either side
flipped : (a b : ℕ) → (a == b) ≡ (b == a)
flipped a b =
    ⊎_elim (λ e. eq-eqb a b e ∙ sym (eq-eqb b a (sym e)))
    (λ e. ne_eqb a b e ∙ sym (ne_eqb b a (λ q. absurd (e (sym q))))) (cases_eq a b)

module _ (width position : ℕ) (r : Report) (tracked : Tracked) (w : ℕ) (d : WorkerDesk) (share : Share) where
  abbrev seen_event : LaneEvent
  seen_event = Seen position r tracked.begins tracked.stopped

  -- that the vehicle was seen, after that it left a place, if it did
  abbrev after_leave : Option Place → List LaneEvent
  after_leave left = leave_of position r left ++ seen_event ∷ []

  -- a report that leaves no place
  pub put_seen : (own : ℕ) → own ≡ worker_for (way_of (stretch_of r)) width → tracked.left ≡ None →
      IsDesk d (cond (w == own) (with_events (seen_event ∷ []) share) share) →
      IsDesk d (with_events (told_to w width (tracked_events position r tracked)) share)
  put_seen own e none h =
      subst (λ o. IsDesk d (with_events (told_to w width (after_leave o)) share)) (sym none)
      (subst (λ v. IsDesk d (with_events (cond (v == w) (seen_event ∷ []) []) share)) e
      (one_more w own seen_event d share h))

  -- one that leaves a place
  pub put_both : (own other : ℕ) (p : Place) → own ≡ worker_for (way_of (stretch_of r)) width →
      other ≡ worker_for (way_of (stretch_around p)) width → tracked.left ≡ Some p → IsDesk d
      (cond (w == own)
      (with_events (seen_event ∷ [])
      (cond (w == other) (with_events (Leave position r.time r.vid p ∷ []) share) share))
      (cond (w == other) (with_events (Leave position r.time r.vid p ∷ []) share) share)) →
      IsDesk d (with_events (told_to w width (tracked_events position r tracked)) share)
  put_both own other p e f some h =
      let leave = Leave position r.time r.vid p in
      subst (λ o. IsDesk d (with_events (told_to w width (after_leave o)) share)) (sym some)
      (subst (λ v. IsDesk d
      (with_events
      (cond (v == w) (leave ∷ cond (worker_for (way_of (stretch_of r)) width == w) (seen_event ∷ []) [])
      (cond (worker_for (way_of (stretch_of r)) width == w) (seen_event ∷ []) [])) share)) f
      (subst (λ v. IsDesk d
      (with_events
      (cond (other == w) (leave ∷ cond (v == w) (seen_event ∷ []) []) (cond (v == w) (seen_event ∷ []) [])) share))
      e
      (then_more (other == w) leave (cond (own == w) (seen_event ∷ []) []) d share
      (subst (λ b. IsDesk d
      (with_events (cond (own == w) (seen_event ∷ []) []) (cond b (with_events (leave ∷ []) share) share)))
      (flipped w other)
      (one_more w own seen_event d (cond (w == other) (with_events (leave ∷ []) share) share) h)))))

-- what the tracker tells of a report gives its events
pub events_are : (day : List Tuple) (r : Report) (tracked : Tracked) →
    IsTracked tracked (trail (reports day) r.vid) r → tracked_events (length day) r tracked ≡ events_at (day, ReportTuple r)
events_are day r tracked is =
    ap (λ o. leave_of (length day) r o ++ Seen (length day) r tracked.begins tracked.stopped ∷ []) is.left
    ∙ ap (λ b. leave_of (length day) r (left_by (trail (reports day) r.vid) r) ++ Seen (length day) r b tracked.stopped
    ∷ []) (is.begins ∙ ap (λ prev. begins prev r) (newest_is day r.vid))
    ∙ ap (λ b. leave_of (length day) r (left_by (trail (reports day) r.vid) r) ++ Seen (length day) r
    (begins (previous (sights_of day r.vid)) r) b ∷ []) is.stopped

-- the reports of a valid day are in range
in_range : (day : List Tuple) → AllByRecursion IsValid day → AllByRecursion IsReport (reports day)
in_range [] h = tt
in_range (ReportTuple r ∷ xs) h = (h.0, in_range xs h.1)
in_range (Balance time vid qid ∷ xs) h = in_range xs h.1
in_range (Spent time vid xway qid of_day ∷ xs) h = in_range xs h.1
in_range (Travel time ∷ xs) h = in_range xs h.1

left_if : (b : Bool) (p : Place) → p.dir ≤ 1 → IfSome (cond b (Some p) None) (λ q. q.dir ≤ 1)
left_if true p h = h
left_if false p h = tt

left_of : (own : List Report) (r : Report) → AllByRecursion IsReport own → IfSome (left_by own r) (λ p. p.dir ≤ 1)
left_of [] r h = tt
left_of (prev ∷ older) r h =
    left_if (stands (prev ∷ older) (place_of prev) && not (same_place (place_of prev) (place_of r)))
    (place_of prev) h.0.5

-- so the place that a report leaves is one of the road
pub left_direction : (day : List Tuple) (r : Report) (limits : Limits) (left : Option Place) →
    Fit (day ++ ReportTuple r ∷ []) limits → left ≡ left_by (trail (reports day) r.vid) r → IfSome left (λ p. p.dir ≤ 1)
left_direction day r limits left fit e =
    let valid =
    left_part IsValid day (ReportTuple r ∷ []) (recursion_from_All IsValid (day ++ ReportTuple r ∷ []) fit.valid) in
    subst (λ o. IfSome o (λ p. p.dir ≤ 1)) (sym e)
    (left_of (trail (reports day) r.vid) r
    (kept IsReport (λ q. q.vid == r.vid) (reverse (reports day))
    (turned IsReport (reports day) (in_range day valid))))

-- a tuple that is no report adds no event
pub nothing_more : (d : WorkerDesk) (share : Share) → IsDesk d share → IsDesk d (with_events [] share)
nothing_more d share h = same_desk d share (with_events [] share) (sym (append-nil share.waiting)) refl h

-- the lesser of a number and the first position
pub lower_none : (es : List LaneEvent) (n : ℕ) → None ≡ first_of es → n ≡ least_with es n
lower_none [] n e = refl
lower_none (x ∷ es) n e = cc

pub lower_some : (es : List LaneEvent) (p n : ℕ) → Some p ≡ first_of es → min p n ≡ least_with es n
lower_some [] p n e = cc
lower_some (x ∷ es) p n e = ap (λ q. min q n) (same e)
  where
    same : Some p ≡ Some (position_told x) → p ≡ position_told x
    same q = cc

-- what holds holds also where all went well
pub on_ok : {T E P : Type 0} (r : Result T E) → P → OnOk r P
on_ok (Ok x) p = p
on_ok (Err e) p = tt

-- what a report calls for is what the definitions say
pub due_is : (day : List Tuple) (r : Report) (tracked : Tracked) → IsTracked tracked (trail (reports day) r.vid) r →
    ReportDue r.time r.vid tracked.charge (tracked.begins && not (r.lane == 4)) ≡ due_of (day, ReportTuple r)
due_is day r tracked is =
    let told = told_is_of_the_day day r tracked is in
    ap (λ ch. ReportDue r.time r.vid ch (tracked.begins && not (r.lane == 4))) told.charge
    ∙ ap (λ b. ReportDue r.time r.vid (charge_by (previous (sights_of day r.vid)) r) (b && not (r.lane == 4)))
    told.begins
