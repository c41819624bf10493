-- a worker sees all reports of its ways
use Rattle.std.proofs.Common.{◌≡◌, ℕ, ◌==◌, Bool, true, false, cond, List, [], ◌∷◌, ◌++◌, length, refl, sym, ap, ◌∙◌}
use Rattle.std.proofs.Common.{Option, Some, None}
use Rattle.std.specs.List.{flat_map}
use Rattle.std.proofs.lemmas.Bool.{cond-false, false_from_ne_true, false≢true, eq-eqb}
use Rattle.road_time.specs.declared.road.Tuple.{Tuple}
use Rattle.road_time.specs.declared.road.Tuple.TheVariants.{Report as ReportTuple, Balance, Spent, Travel}
use Rattle.road_time.specs.declared.road.Report.{Report}
use Rattle.road_time.specs.declared.road.Stretch.{Stretch}
use Rattle.road_time.specs.declared.road.Place.{Place}
use Rattle.road_time.specs.Ways.{way_of, worker_for}
use Rattle.road_time.specs.Tuples.{reports, stretch_of, same_stretch, place_of}
use Rattle.road_time.specs.Sights.{moments_after, sights_of, previous}
use Rattle.road_time.specs.Stops.{trail, stands, left_by}
use Rattle.road_time.specs.Stays.{begins}
use Rattle.road_time.proofs.SameLaws.{stretch_is}
use Rattle.ways_expressway.specs.declared.lane_event.LaneEvent.{LaneEvent}
use Rattle.ways_expressway.specs.declared.lane_event.LaneEvent.TheVariants.{Seen, Leave}
use Rattle.ways_expressway.specs.Events.{events_at, leave_of, told_to, seen, events_for}
use Rattle.ways_expressway.specs.Laws.{from}

-- an event that is for the worker if its report is from the stretch
one_seen : (position : ℕ) (r : Report) (b s : Bool) (stretch : Stretch) (es : List LaneEvent) (is_told : Bool) →
    (same_stretch (stretch_of r) stretch ≡ true → is_told ≡ true) →
    from stretch (seen (cond is_told (Seen position r b s ∷ es) es)) ≡ from stretch (r ∷ seen es)
one_seen position r b s stretch es true h = refl
one_seen position r b s stretch es false h =
    sym (cond-false (same_stretch (stretch_of r) stretch) _ _
    (false_from_ne_true (same_stretch (stretch_of r) stretch) (λ e. false≢true (h e))))

-- a leave shows no report
none_seen : (position time vid : ℕ) (place : Place) (es : List LaneEvent) (is_told : Bool) →
    seen (cond is_told (Leave position time vid place ∷ es) es) ≡ seen es
none_seen position time vid place es true = refl
none_seen position time vid place es false = refl

module _ (width : ℕ) (stretch : Stretch) where
  -- the events for the worker of the stretch
  abbrev mine : List LaneEvent → List LaneEvent
  mine es = told_to (worker_for (way_of stretch) width) width es

  -- a report from the stretch is its worker's
  its_worker : (r : Report) → same_stretch (stretch_of r) stretch ≡ true →
      (worker_for (way_of (stretch_of r)) width == worker_for (way_of stretch) width) ≡ true
  its_worker r h = eq-eqb _ _ (ap (λ k. worker_for (way_of k) width) (stretch_is (stretch_of r) stretch h))

  -- the events of one report show it, if it is from the stretch
  seen_step : (o : Option Place) (position : ℕ) (r : Report) (b s : Bool) (es : List LaneEvent) →
      from stretch (seen (mine ((leave_of position r o ++ Seen position r b s ∷ []) ++ es))) ≡ from stretch
      (r ∷ seen (mine es))
  seen_step None position r b s es = one_seen position r b s stretch (mine es) _ (its_worker r)
  seen_step (Some place) position r b s es =
      ap (from stretch) (none_seen position r.time r.vid place (mine (Seen position r b s ∷ es)) _)
      ∙ one_seen position r b s stretch (mine es) _ (its_worker r)

  -- those of several show all reports from the stretch
  pub seen_after : (before day : List Tuple) →
      from stretch (seen (mine (flat_map events_at (moments_after before day)))) ≡ from stretch (reports day)
  seen_after before [] = refl
  seen_after before (ReportTuple r ∷ xs) =
      let own = trail (reports before) r.vid in
      seen_step (left_by own r) (length before) r (begins (previous (sights_of before r.vid)) r)
      (stands (r ∷ own) (place_of r)) (flat_map events_at (moments_after (before ++ ReportTuple r ∷ []) xs))
      ∙ ap (λ rs. cond (same_stretch (stretch_of r) stretch) (r ∷ rs) rs) (seen_after (before ++ ReportTuple r ∷ []) xs)
  seen_after before (Balance time vid qid ∷ xs) = seen_after (before ++ Balance time vid qid ∷ []) xs
  seen_after before (Spent time vid xway qid of_day ∷ xs) =
      seen_after (before ++ Spent time vid xway qid of_day ∷ []) xs
  seen_after before (Travel time ∷ xs) = seen_after (before ++ Travel time ∷ []) xs

  -- and so do the events of a day
  pub all_seen : (day : List Tuple) → from stretch (seen (events_for day (worker_for (way_of stretch) width) width))
      ≡ from stretch (reports day)
  all_seen day = seen_after [] day
