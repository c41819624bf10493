-- a worker reads from its events who is stopped on its ways
use Rattle.std.proofs.Common.{◌≡◌, ℕ, ◌==◌, ◌&&◌, ◌||◌, ⊎_elim, Bool, true, false, cond, List, [], ◌∷◌, ◌++◌, length}
use Rattle.std.proofs.Common.{refl, sym, ap, ◌∙◌, Option, Some, None}
use Rattle.std.specs.List.{flat_map}
use Rattle.std.proofs.lemmas.List.{append-nil, append_assoc}
use Rattle.std.proofs.lemmas.List.Elements.{filter-append, filter_map-append}
use Rattle.std.proofs.lemmas.List.Concat.{flat_map-append}
use Rattle.std.proofs.lemmas.Bool.{cases_Bool, cond-true, cond-false, false_from_ne_true, false≢true, eq-eqb, eqb-true}
use Rattle.std.proofs.lemmas.Bool.{and_from, and_left, and_right}
use Rattle.road_time.specs.declared.road.Tuple.{Tuple}
use Rattle.road_time.specs.declared.road.Tuple.TheVariants.{Report as ReportTuple, Balance, Spent, Travel}
use Rattle.road_time.specs.declared.road.Report.{Report}
use Rattle.road_time.specs.declared.road.Place.{Place}
use Rattle.road_time.specs.Ways.{way_of, worker_for}
use Rattle.road_time.specs.Tuples.{reports, report_of, stretch_around, place_of, same_place}
use Rattle.road_time.specs.Stops.{stands, left_by, trail, is_stopped}
use Rattle.road_time.specs.Stays.{begins}
use Rattle.road_time.specs.Entries.{StopEntry, is_standing}
use Rattle.road_time.specs.Sights.{moments, sights_of, previous}
use Rattle.road_time.proofs.SameLaws.{place_is, place_same}
use Rattle.road_time.proofs.SightLaws.{moments-append}
use Rattle.road_time.proofs.TrailLaws.{by_push, trail_push, stands_longer, stands_elsewhere, left_by_is}
use Rattle.road_time.proofs.EntryLaws.{standing_push}
use Rattle.ways_expressway.specs.declared.lane_event.LaneEvent.{LaneEvent}
use Rattle.ways_expressway.specs.declared.lane_event.LaneEvent.TheVariants.{Seen, Leave}
use Rattle.ways_expressway.specs.Events.{events, events_at, leave_of, told_to, way_told, stop_entry_of, entries}

-- a choice between equal values
cond_same : {X : Type 0} (b : Bool) (x : X) → cond b x x ≡ x
cond_same true x = refl
cond_same false x = refl

-- what is so already
absorbed : (a b : Bool) → (b ≡ true → a ≡ true) → (a || b) ≡ a
absorbed true b h = refl
absorbed false true h = sym (h refl)
absorbed false false h = refl

-- what is so although some was taken away
only_kept : (b s : Bool) → cond b false s ≡ true → s ≡ true
only_kept true s h = absurd (false≢true h)
only_kept false s h = h

-- the events of a day with one tuple more
pub events_push : (day : List Tuple) (x : Tuple) → events (day ++ x ∷ []) ≡ events day ++ events_at (day, x)
events_push day x =
    ap (flat_map events_at) (moments-append [] day (x ∷ [])) ∙ flat_map-append events_at (moments day) ((day, x) ∷ [])
    ∙ ap (λ es. events day ++ es) (append-nil (events_at (day, x)))

module _ (worker width vid : ℕ) (place : Place) (its : worker_for (way_of (stretch_around place)) width ≡ worker) where
  -- whether the vehicle is stopped at the place, as the worker reads it from its part of the events
  abbrev is_read : List LaneEvent → Bool
  is_read es = is_standing (entries (told_to worker width es)) vid place

  -- whether an event is the worker's
  abbrev is_told : LaneEvent → Bool
  is_told e = worker_for (way_told e) width == worker

  -- a stop or leave at the place is the worker's
  its_worker : (p : Place) → same_place p place ≡ true → (worker_for (way_of (stretch_around p)) width == worker) ≡ true
  its_worker p h = eq-eqb _ _ (ap (λ q. worker_for (way_of (stretch_around q)) width) (place_is p place h) ∙ its)

  -- the worker's entries with one event more
  entries_push : (es : List LaneEvent) (e : LaneEvent) →
      entries (told_to worker width (es ++ e ∷ [])) ≡ entries (told_to worker width es) ++ entries
      (cond (is_told e) (e ∷ []) [])
  entries_push es e = ap entries (filter-append is_told es (e ∷ []))
      ∙ filter_map-append stop_entry_of (told_to worker width es) (cond (is_told e) (e ∷ []) [])

  -- who stands after a leave, if the worker is told of it
  leave_entry : (es : List StopEntry) (position time v : ℕ) (p : Place) (b : Bool) →
      (same_place p place ≡ true → b ≡ true)
      → is_standing (es ++ entries (cond b (Leave position time v p ∷ []) [])) vid place
      ≡ cond (v == vid && same_place p place) false (is_standing es vid place)
  leave_entry es position time v p true h =
      standing_push es (record { second = time; vid = v; place = p; stops = false }) vid place
  leave_entry es position time v p false h =
      ap (λ xs. is_standing xs vid place) (append-nil es)
      ∙ sym (cond-false (v == vid && same_place p place) _ _
      (and_right (v == vid) (same_place p place) (false_from_ne_true _ (λ e. false≢true (h e)))))

  -- the same, since the worker is told of each at the place
  leave_push : (es : List LaneEvent) (position time v : ℕ) (p : Place) →
      is_read (es ++ Leave position time v p ∷ []) ≡ cond (v == vid && same_place p place) false (is_read es)
  leave_push es position time v p =
      ap (λ xs. is_standing xs vid place) (entries_push es (Leave position time v p))
      ∙ leave_entry (entries (told_to worker width es)) position time v p _ (its_worker p)

  -- who stands after a report, if the worker is told of it
  seen_entry : (es : List StopEntry) (position : ℕ) (r : Report) (b s t : Bool) →
      (same_place (place_of r) place ≡ true → t ≡ true) →
      is_standing (es ++ entries (cond t (Seen position r b s ∷ []) [])) vid place
      ≡ cond (r.vid == vid && same_place (place_of r) place) (s || is_standing es vid place)
      (is_standing es vid place)
  seen_entry es position r b true true h =
      standing_push es (record { second = r.time; vid = r.vid; place = place_of r; stops = true }) vid place
  seen_entry es position r b false true h =
      ap (λ xs. is_standing xs vid place) (append-nil es)
      ∙ sym (cond_same (r.vid == vid && same_place (place_of r) place) (is_standing es vid place))
  seen_entry es position r b s false h =
      ap (λ xs. is_standing xs vid place) (append-nil es)
      ∙ sym (cond-false (r.vid == vid && same_place (place_of r) place) _ _
      (and_right (r.vid == vid) (same_place (place_of r) place) (false_from_ne_true _ (λ e. false≢true (h e)))))

  -- the same, since the worker is told of each at the place
  seen_push : (es : List LaneEvent) (position : ℕ) (r : Report) (b s : Bool) →
      is_read (es ++ Seen position r b s ∷ []) ≡ cond (r.vid == vid && same_place (place_of r) place) (s || is_read es)
      (is_read es)
  seen_push es position r b s =
      ap (λ xs. is_standing xs vid place) (entries_push es (Seen position r b s))
      ∙ seen_entry (entries (told_to worker width es)) position r b s _ (its_worker (place_of r))

  -- after the leave of a report, if there is one
  abbrev is_left : List LaneEvent → ℕ → Report → Option Place → Bool
  is_left es position r o = is_read (es ++ leave_of position r o)

  -- another vehicle's leave changes nothing
  left_other : (es : List LaneEvent) (position : ℕ) (r : Report) (o : Option Place) → (r.vid == vid) ≡ false →
      is_left es position r o ≡ is_read es
  left_other es position r None h = ap is_read (append-nil es)
  left_other es position r (Some p) h = leave_push es position r.time r.vid p
      ∙ cond-false (r.vid == vid && same_place p place) _ _ (and_left (r.vid == vid) (same_place p place) h)

  -- after its own leave the vehicle does not stand there
  left_here : (es : List LaneEvent) (position : ℕ) (r : Report) → (r.vid == vid) ≡ true →
      is_left es position r (Some place) ≡ false
  left_here es position r h = leave_push es position r.time r.vid place
      ∙ cond-true (r.vid == vid && same_place place place) _ _
      (and_from (r.vid == vid) (same_place place place) h (place_same place))

  -- who stands after a leave stood before
  left_less : (es : List LaneEvent) (position : ℕ) (r : Report) (o : Option Place) → is_left es position r o ≡ true →
      is_read es ≡ true
  left_less es position r None h = sym (ap is_read (append-nil es)) ∙ h
  left_less es position r (Some p) h =
      only_kept (r.vid == vid && same_place p place) (is_read es) (sym (leave_push es position r.time r.vid p) ∙ h)

  -- a report of the vehicle, by whether it is at the place
  own_step : (es : List LaneEvent) (position : ℕ) (own : List Report) (r : Report) → (r.vid == vid) ≡ true →
      is_read es ≡ stands own place → cond (r.vid == vid && same_place (place_of r) place)
      (stands (r ∷ own) (place_of r) || is_left es position r (left_by own r))
      (is_left es position r (left_by own r)) ≡ stands (r ∷ own) place
  own_step es position own r v h =
      ⊎_elim
      (λ e. cond-true _ _ _ (and_from (r.vid == vid) (same_place (place_of r) place) v e)
      ∙ ap (λ p. stands (r ∷ own) p || is_left es position r (left_by own r)) (place_is (place_of r) place e)
      ∙ absorbed (stands (r ∷ own) place) (is_left es position r (left_by own r))
      (λ t. stands_longer r own place e (sym h ∙ left_less es position r (left_by own r) t)))
      (λ e. cond-false _ _ _ (and_right (r.vid == vid) (same_place (place_of r) place) e) ∙ gone e
      ∙ sym (stands_elsewhere r own place e))
      (cases_Bool (same_place (place_of r) place))
    where
      gone : same_place (place_of r) place ≡ false → is_left es position r (left_by own r) ≡ false
      gone e =
          ⊎_elim
          (λ t. ap (is_left es position r) (left_by_is own r place t e) ∙ left_here es position r v)
          (λ t. false_from_ne_true _ (λ g. false≢true (sym t ∙ sym h ∙ left_less es position r (left_by own r) g)))
          (cases_Bool (stands own place))

  -- after the events of one report the worker reads who is stopped
  report_step : (es : List LaneEvent) (position : ℕ) (rs : List Report) (r : Report) (b : Bool) →
      is_read es ≡ is_stopped rs vid place → is_read (es
      ++ (leave_of position r (left_by (trail rs r.vid) r) ++ Seen position r b
      (stands (r ∷ trail rs r.vid) (place_of r)) ∷ [])) ≡ is_stopped (rs ++ r ∷ []) vid place
  report_step es position rs r b h =
      let own = trail rs r.vid in
      let leave = leave_of position r (left_by own r) in
      ap is_read (sym (append_assoc es leave (Seen position r b (stands (r ∷ own) (place_of r)) ∷ [])))
      ∙ seen_push (es ++ leave) position r b (stands (r ∷ own) (place_of r))
      ∙ ⊎_elim
      (λ v. let same : r.vid ≡ vid = eqb-true r.vid vid v in
      own_step es position own r v (h ∙ ap (λ w. stands (trail rs w) place) (sym same))
      ∙ ap (λ w. stands (r ∷ trail rs w) place) same
      ∙ sym (ap (λ t. stands t place) (trail_push rs r vid ∙ cond-true (r.vid == vid) _ _ v)))
      (λ v. cond-false _ _ _ (and_left (r.vid == vid) (same_place (place_of r) place) v)
      ∙ left_other es position r (left_by own r) v ∙ h
      ∙ sym (ap (λ t. stands t place) (trail_push rs r vid ∙ cond-false (r.vid == vid) _ _ v)))
      (cases_Bool (r.vid == vid))

  -- and so after those of one tuple
  stopped_push : (day : List Tuple) (x : Tuple) → is_read (events day) ≡ is_stopped (reports day) vid place →
      is_read (events day ++ events_at (day, x)) ≡ is_stopped (reports (day ++ x ∷ [])) vid place
  stopped_push day (ReportTuple r) h =
      report_step (events day) (length day) (reports day) r (begins (previous (sights_of day r.vid)) r) h
      ∙ ap (λ rs. is_stopped rs vid place) (sym (filter_map-append report_of day (ReportTuple r ∷ [])))
  stopped_push day (Balance time v qid) h = ap is_read (append-nil (events day)) ∙ h
      ∙ ap (λ rs. is_stopped rs vid place)
      (sym (filter_map-append report_of day (Balance time v qid ∷ []) ∙ append-nil (reports day)))
  stopped_push day (Spent time v xway qid of_day) h = ap is_read (append-nil (events day)) ∙ h
      ∙ ap (λ rs. is_stopped rs vid place)
      (sym (filter_map-append report_of day (Spent time v xway qid of_day ∷ []) ∙ append-nil (reports day)))
  stopped_push day (Travel time) h = ap is_read (append-nil (events day)) ∙ h
      ∙ ap (λ rs. is_stopped rs vid place)
      (sym (filter_map-append report_of day (Travel time ∷ []) ∙ append-nil (reports day)))

  -- after the whole of a day
  pub stopped_same : (day : List Tuple) → is_read (events day) ≡ is_stopped (reports day) vid place
  stopped_same day =
      by_push (λ d. is_read (events d) ≡ is_stopped (reports d) vid place) refl
      (λ d x h. ap is_read (events_push d x) ∙ stopped_push d x h) day
