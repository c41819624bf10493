-- a worker's events may be run: Times do not fall, and a vehicle leaves only where it stands
use Rattle.std.proofs.Common.{map, ◌≡◌, ℕ, ◌≤◌, ◌==◌, Bool, true, false, cond, List, [], ◌∷◌, ◌++◌, length, refl, sym}
use Rattle.std.proofs.Common.{ap, ◌∙◌, arith, subst, Option, Some, None, ◌&&◌, not}
use Rattle.std.specs.List.{filter, flat_map, AllByRecursion}
use Rattle.std.proofs.lemmas.List.{append-nil, append_assoc}
use Rattle.std.proofs.lemmas.List.Elements.{filter-append}
use Rattle.std.proofs.lemmas.Bool.{eqb-true, and_parts}
use Rattle.std.proofs.lemmas.Option.{same_Some}
use Rattle.road_time.specs.declared.road.Tuple.{Tuple}
use Rattle.road_time.specs.declared.road.Tuple.TheVariants.{Report as ReportTuple, Balance, Spent, Travel}
use Rattle.road_time.specs.declared.road.Report.{Report}
use Rattle.road_time.specs.declared.road.Place.{Place}
use Rattle.road_time.specs.declared.day.Limits.{Limits}
use Rattle.road_time.specs.Fits.{Fit}
use Rattle.road_time.proofs.PartLaws.{fit_chosen}
use Rattle.road_time.specs.Order.{AreTimesInOrder}
use Rattle.road_time.specs.Ways.{way_of, worker_for}
use Rattle.road_time.specs.Tuples.{reports, time_of, stretch_of, place_of, same_place}
use Rattle.road_time.specs.Stops.{trail, stands, left_by}
use Rattle.road_time.specs.Sights.{moments_after}
use Rattle.road_time.proofs.EachLaws.{kept, joined, left_part}
use Rattle.road_time.proofs.TrailLaws.{by_push}
use Rattle.ways_expressway.specs.declared.lane_event.LaneEvent.{LaneEvent}
use Rattle.ways_expressway.specs.declared.lane_event.LaneEvent.TheVariants.{Seen, Leave}
use Rattle.ways_expressway.specs.Events.{events, events_at, events_for, leave_of, told_to, way_told, time_told, seen}
use Rattle.ways_expressway.specs.Runs.{NoneAfter, MayFollow, MayRun}
use Rattle.ways_expressway.proofs.StopLaws.{events_push, stopped_same}
use Rattle.ways_expressway.proofs.TimeLaws.{events_time}

-- events of one second are of none later than a later one
weaker : (n s : ℕ) (es : List LaneEvent) → AllByRecursion (λ e. time_told e ≡ n) es → n ≤ s → NoneAfter s es
weaker n s [] h g = tt
weaker n s (e ∷ es) h g = (omega (arith, h.0), weaker n s es h.1 g)

-- the events of tuples up to a second are of no later one
events_bound : (s : ℕ) (before day : List Tuple) → AllByRecursion (λ y. time_of y ≤ s) day →
    NoneAfter s (flat_map events_at (moments_after before day))
events_bound s before [] h = tt
events_bound s before (x ∷ xs) h =
    joined (λ e. time_told e ≤ s) (events_at (before, x)) (flat_map events_at (moments_after (before ++ x ∷ []) xs))
    (weaker (time_of x) s (events_at (before, x)) (events_time before x) h.0) (events_bound s (before ++ x ∷ []) xs h.1)

-- what holds of all holds of the last
last_part : {X : Type 0} (P : X → Type 0) (xs : List X) (y : X) → AllByRecursion P (xs ++ y ∷ []) → P y
last_part P [] y h = h.0
last_part P (x ∷ xs) y h = last_part P xs y h.1

-- in order, the tuples before the last are in order and not later
order_start : (day : List Tuple) (x : Tuple) → AreTimesInOrder (day ++ x ∷ []) → AreTimesInOrder day
    × AllByRecursion (λ y. time_of y ≤ time_of x) day
order_start [] x h = (tt, tt)
order_start (y ∷ ys) x h =
    let rest = order_start ys x h.1 in (
      (left_part (λ z. time_of y ≤ time_of z) ys (x ∷ []) h.0, rest.0),
      (last_part (λ z. time_of y ≤ time_of z) ys x h.0, rest.1),
    )

-- one event more may run after those
may_push : (before es : List LaneEvent) (e : LaneEvent) → MayRun before es → MayFollow (before ++ es) e →
    MayRun before (es ++ e ∷ [])
may_push before [] e h g = (subst (λ xs. MayFollow xs e) (append-nil before) g, tt)
may_push before (x ∷ xs) e h g =
    (h.0, may_push (before ++ x ∷ []) xs e h.1 (subst (λ zs. MayFollow zs e) (sym (append_assoc before (x ∷ []) xs)) g))

-- one more, or none
push_if : (es : List LaneEvent) (e : LaneEvent) (t : Bool) → MayRun [] es → (t ≡ true → MayFollow es e) →
    MayRun [] (es ++ cond t (e ∷ []) [])
push_if es e true h g = may_push [] es e h (g refl)
push_if es e false h g = rw (append-nil es) h

-- and it may be of no later second
bound_if : (es : List LaneEvent) (e : LaneEvent) (t : Bool) (s : ℕ) → NoneAfter s es → time_told e ≤ s →
    NoneAfter s (es ++ cond t (e ∷ []) [])
bound_if es e true s h g = joined (λ x. time_told x ≤ s) es (e ∷ []) h (g, tt)
bound_if es e false s h g = rw (append-nil es) h

-- a value that is there under a test
some_if : {X : Type 0} (b : Bool) (x y : X) → cond b (Some x) None ≡ Some y → (b ≡ true) × (x ≡ y)
some_if true x y h = (refl, same_Some x y h)
some_if false x y h = cc

-- a vehicle stood at the place that it leaves
left_stood : (own : List Report) (r : Report) (p : Place) → left_by own r ≡ Some p → stands own p ≡ true
left_stood [] r p h = cc
left_stood (prev ∷ older) r p h =
    let parts = some_if (stands (prev ∷ older) (place_of prev) && not (same_place (place_of prev) (place_of r)))
    (place_of prev) p h in
    ap (stands (prev ∷ older)) (sym parts.1)
    ∙ (and_parts (stands (prev ∷ older) (place_of prev)) (not (same_place (place_of prev) (place_of r))) parts.0).0

module _ (worker width : ℕ) where
  -- the worker's of some events
  abbrev mine : List LaneEvent → List LaneEvent
  mine es = told_to worker width es

  -- whether an event is the worker's
  abbrev is_told : LaneEvent → Bool
  is_told e = worker_for (way_told e) width == worker

  -- the leave of a report, if there is one, may run
  leave_run : (day : List Tuple) (r : Report) (o : Option Place) → left_by (trail (reports day) r.vid) r ≡ o →
      NoneAfter r.time (events day) → MayRun [] (mine (events day)) →
      MayRun [] (mine (events day) ++ mine (leave_of (length day) r o))
      × NoneAfter r.time (mine (events day) ++ mine (leave_of (length day) r o))
  leave_run day r None e l h = (
    rw (append-nil (mine (events day))) h,
    rw (append-nil (mine (events day)))
        (kept (λ x. time_told x ≤ r.time) is_told (events day) l),
  )
  leave_run day r (Some p) e l h =
      let leave = Leave (length day) r.time r.vid p in
      let bound : NoneAfter r.time (mine (events day)) = kept (λ x. time_told x ≤ r.time) is_told (events day) l in (
        push_if (mine (events day)) leave (is_told leave) h
            (λ t. (
              bound,
              stopped_same worker width r.vid p (eqb-true _ _ t) day
                  ∙ left_stood (trail (reports day) r.vid) r p e,
            )),
        bound_if (mine (events day)) leave (is_told leave) r.time bound (omega arith),
      )

  -- and then that it was seen
  report_run : (day : List Tuple) (r : Report) (b s : Bool) → NoneAfter r.time (events day) →
      MayRun [] (mine (events day)) → MayRun []
      (mine (events day)
      ++ mine (leave_of (length day) r (left_by (trail (reports day) r.vid) r) ++ Seen (length day) r b s ∷ []))
  report_run day r b s l h =
      let o = left_by (trail (reports day) r.vid) r in
      let leave = leave_of (length day) r o in
      let seen_now = Seen (length day) r b s in
      let first = leave_run day r o refl l h in
      subst (MayRun [])
      (append_assoc (mine (events day)) (mine leave) (mine (seen_now ∷ []))
      ∙ ap (λ es. mine (events day) ++ es) (sym (filter-append is_told leave (seen_now ∷ []))))
      (push_if (mine (events day) ++ mine leave) seen_now (is_told seen_now) first.0 (λ _. first.1))

  -- the worker's events of one tuple more may run
  run_push : (day : List Tuple) (x : Tuple) → AllByRecursion (λ y. time_of y ≤ time_of x) day →
      MayRun [] (mine (events day)) → MayRun [] (mine (events day) ++ mine (events_at (day, x)))
  run_push day (ReportTuple r) l h = report_run day r _ _ (events_bound r.time [] day l) h
  run_push day (Balance time vid qid) l h = rw (append-nil (mine (events day))) h
  run_push day (Spent time vid xway qid of_day) l h = rw (append-nil (mine (events day))) h
  run_push day (Travel time) l h = rw (append-nil (mine (events day))) h

  -- one tuple more
  pub events_for_push : (day : List Tuple) (x : Tuple) →
      events_for (day ++ x ∷ []) worker width ≡ events_for day worker width ++ mine (events_at (day, x))
  events_for_push day x = ap mine (events_push day x) ∙ filter-append is_told (events day) (events_at (day, x))

  -- a worker's events may run from the first on
  pub may_run : (day : List Tuple) → AreTimesInOrder day → MayRun [] (events_for day worker width)
  may_run day =
      by_push (λ d. AreTimesInOrder d → MayRun [] (events_for d worker width)) (λ _. tt)
      (λ d x f order. let parts = order_start d x order in
      subst (MayRun []) (sym (events_for_push d x)) (run_push d x parts.1 (f parts.0))) day

  -- the reports that a worker sees
  abbrev is_mine : Report → Bool
  is_mine r = worker_for (way_of (stretch_of r)) width == worker

  -- a report that was seen is seen by its worker
  seen_one : (position : ℕ) (r : Report) (b s t : Bool) (es : List LaneEvent) (rs : List Report) → seen es ≡ rs →
      seen (cond t (Seen position r b s ∷ es) es) ≡ cond t (r ∷ rs) rs
  seen_one position r b s true es rs h = ap (λ xs. r ∷ xs) h
  seen_one position r b s false es rs h = h

  -- a leave shows none
  seen_none : (position time vid : ℕ) (place : Place) (t : Bool) (es : List LaneEvent) →
      seen (cond t (Leave position time vid place ∷ es) es) ≡ seen es
  seen_none position time vid place true es = refl
  seen_none position time vid place false es = refl

  -- the events of one report show it to its worker alone
  seen_step : (o : Option Place) (position : ℕ) (r : Report) (b s : Bool) (es : List LaneEvent) (rs : List Report) →
      seen (mine es) ≡ rs →
      seen (mine ((leave_of position r o ++ Seen position r b s ∷ []) ++ es)) ≡ cond (is_mine r) (r ∷ rs) rs
  seen_step None position r b s es rs h = seen_one position r b s _ (mine es) rs h
  seen_step (Some place) position r b s es rs h =
      seen_none position r.time r.vid place _ (mine (Seen position r b s ∷ es))
      ∙ seen_one position r b s _ (mine es) rs h

  -- those of several show the worker's reports
  seen_after : (before day : List Tuple) → seen (mine (flat_map events_at (moments_after before day))) ≡ filter is_mine
      (reports day)
  seen_after before [] = refl
  seen_after before (ReportTuple r ∷ xs) =
      seen_step (left_by (trail (reports before) r.vid) r) _ r _ _ _ _ (seen_after (before ++ ReportTuple r ∷ []) xs)
  seen_after before (Balance time vid qid ∷ xs) = seen_after (before ++ Balance time vid qid ∷ []) xs
  seen_after before (Spent time vid xway qid of_day ∷ xs) =
      seen_after (before ++ Spent time vid xway qid of_day ∷ []) xs
  seen_after before (Travel time ∷ xs) = seen_after (before ++ Travel time ∷ []) xs

  -- a worker sees the reports of its ways and no others
  pub seen_mine : (day : List Tuple) → seen (events_for day worker width) ≡ filter is_mine (reports day)
  seen_mine day = seen_after [] day

-- what a worker sees of a fit day is fit
pub carried : (day : List Tuple) (limits : Limits) → Fit day limits → (worker width : ℕ) →
    Fit (map (λ r. ReportTuple r) (seen (events_for day worker width))) limits
carried day limits fit worker width = rw (seen_mine worker width day) (fit_chosen (is_mine worker width) day limits fit)
