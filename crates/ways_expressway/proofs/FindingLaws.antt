-- a worker finds what the rules tell
use Rattle.std.proofs.Common.{◌≡◌, ℕ, ◌+◌, ◌≤◌, ◌<◌, ◌==◌, ◌&&◌, not, Bool, true, false, cond, List, [], ◌∷◌, ◌++◌}
use Rattle.std.proofs.Common.{length, map, refl, sym, ap, ◌∙◌, arith, Option, Some, None}
use Rattle.std.specs.List.{filter, filter_map, flat_map, cons_option}
use Rattle.std.proofs.lemmas.List.{length_push}
use Rattle.std.proofs.lemmas.List.Elements.{filter-append, filter_map-append}
use Rattle.std.proofs.lemmas.Bool.{cond-true, cond-false, false≢true, eqb-true, ne_eqb}
use Rattle.road_time.specs.declared.road.Tuple.{Tuple}
use Rattle.road_time.specs.declared.road.Tuple.TheVariants.{Report as ReportTuple, Balance, Spent, Travel}
use Rattle.road_time.specs.declared.road.Report.{Report}
use Rattle.road_time.specs.declared.road.Stretch.{Stretch}
use Rattle.road_time.specs.declared.road.Place.{Place}
use Rattle.road_time.specs.Clock.{minute_of}
use Rattle.road_time.specs.Order.{AreTimesInOrder}
use Rattle.road_time.specs.Ways.{way_of, worker_for}
use Rattle.road_time.specs.Tuples.{reports, stretch_of, place_of}
use Rattle.road_time.specs.Notes.{Note, notes_at}
use Rattle.road_time.specs.Sights.{Moment, Sight, moments, moments_after, sights_of, previous}
use Rattle.road_time.specs.Rates.{Tariffs}
use Rattle.road_time.specs.Stops.{Stop, up_to, near, trail, stands, left_by}
use Rattle.road_time.specs.Stays.{begins, is_told}
use Rattle.road_time.specs.Entries.{entries_up_to, standing_at}
use Rattle.road_time.specs.Tolls.{StretchTold, notes_of, stops_at, near_at, finding_by, finding_at}
use Rattle.road_time.specs.Day.{rules, told_if, told_sight}
use Rattle.road_time.proofs.SameLaws.{number_same}
use Rattle.road_time.proofs.SightLaws.{moments-append}
use Rattle.road_time.proofs.StandLaws.{near_in, stops_among, standing_among}
use Rattle.road_time.proofs.StretchLaws.{notes_alike, finding_until}
use Rattle.ways_expressway.specs.declared.lane_event.LaneEvent.{LaneEvent}
use Rattle.ways_expressway.specs.declared.lane_event.LaneEvent.TheVariants.{Seen, Leave}
use Rattle.ways_expressway.specs.Events.{events_at, events_for, leave_of, told_to, seen, entries}
use Rattle.ways_expressway.specs.Findings.{found_if, finding_of, findings, found_at}
use Rattle.ways_expressway.specs.Laws.{from, told_sights}
use Rattle.ways_expressway.proofs.SeenLaws.{all_seen}
use Rattle.ways_expressway.proofs.TimeLaws.{stopped_then}

-- what is for the worker
abbrev pub kept_if : Bool → Option (ℕ × StretchTold) → Option (ℕ × StretchTold)
kept_if true o = o
kept_if false o = None

module _ (day : List Tuple) (order : AreTimesInOrder day) (tariffs : Tariffs) (worker width : ℕ) where
  -- the worker's events, the notes of the reports in them, and who stands at the end of a second by them
  abbrev mine : List LaneEvent
  mine = events_for day worker width

  abbrev notes_read : List Note
  notes_read = notes_of (seen mine)

  abbrev stops_read : ℕ → List Stop
  stops_read t = standing_at (entries mine) t

  -- on its ways the worker has the nearest accident of the rules
  near_rule : (k : Stretch) → worker_for (way_of k) width ≡ worker → (m : ℕ) →
      near stops_read m k ≡ near_at (reports day) m k
  near_rule k its m =
      near_in stops_read (stops_at (reports day)) m k
      (λ t s e. standing_among (entries_up_to t (entries mine)) s
      ∙ stopped_then worker width t s.0 s.1 (ap (λ w. worker_for w width) e ∙ its) day order
      ∙ sym (stops_among (up_to t (reports day)) s))

  -- and the notes of each minute
  notes_rule : (k : Stretch) → worker_for (way_of k) width ≡ worker → (m : ℕ) →
      notes_at notes_read m k ≡ notes_at (notes_of (reports day)) m k
  notes_rule k its m =
      notes_alike (seen mine) (reports day) k (ap (λ w. from k (seen (events_for day w width))) (sym its)
      ∙ all_seen width k day) m

  -- the finding by the rules over the whole day
  abbrev by_rules : Bool → ℕ → Report → Option (ℕ × StretchTold)
  by_rules b position r = found_if b (notes_of (reports day)) (stops_at (reports day)) tariffs position r

  -- and so the finding of each report
  found_rule : (r : Report) → worker_for (way_of (stretch_of r)) width ≡ worker →
      finding_by notes_read stops_read tariffs r ≡ finding_at (reports day) tariffs r
  found_rule r its =
      finding_until notes_read (notes_of (reports day)) stops_read (stops_at (reports day)) tariffs r
      (λ j _. notes_rule (stretch_of r) its j) (near_rule (stretch_of r) its (minute_of r.time))

  -- the same, where it is told
  when_rule : (b : Bool) (position : ℕ) (r : Report) → worker_for (way_of (stretch_of r)) width ≡ worker →
      found_if b notes_read stops_read tariffs position r ≡ by_rules b position r
  when_rule true position r its = ap (λ f. Some (position, f)) (found_rule r its)
  when_rule false position r its = refl

  -- what the rules tell at a moment, if it is for the worker
  abbrev rule_at : Moment → Option (ℕ × StretchTold)
  rule_at (before, ReportTuple r) =
      kept_if (worker_for (way_of (stretch_of r)) width == worker)
      (by_rules (is_told (previous (sights_of before r.vid)) r) (length before) r)
  rule_at (before, Balance time vid qid) = None
  rule_at (before, Spent time vid xway qid of_day) = None
  rule_at (before, Travel time) = None

  -- what the worker finds for some of its events
  abbrev found : List LaneEvent → List (ℕ × StretchTold)
  found es = filter_map (finding_of notes_read stops_read tariffs) es

  -- a report adds what the rules tell, if it is the worker's
  seen_found : (position : ℕ) (r : Report) (b s : Bool) (es : List LaneEvent) (t : Bool) →
      (worker_for (way_of (stretch_of r)) width == worker) ≡ t →
      found (cond t (Seen position r b s ∷ es) es) ≡ cons_option
      (kept_if t (by_rules (b && not (r.lane == 4)) position r)) (found es)
  seen_found position r b s es true h =
      ap (λ o. cons_option o (found es)) (when_rule (b && not (r.lane == 4)) position r (eqb-true _ _ h))
  seen_found position r b s es false h = refl

  -- a leave adds nothing
  leave_found : (position time vid : ℕ) (place : Place) (es : List LaneEvent) (t : Bool) →
      found (cond t (Leave position time vid place ∷ es) es) ≡ found es
  leave_found position time vid place es true = refl
  leave_found position time vid place es false = refl

  -- the events of one tuple add what the rules tell at its moment
  found_step : (o : Option Place) (position : ℕ) (r : Report) (b s : Bool) (es : List LaneEvent) →
      found (told_to worker width ((leave_of position r o ++ Seen position r b s ∷ []) ++ es))
      ≡ cons_option
      (kept_if (worker_for (way_of (stretch_of r)) width == worker) (by_rules (b && not (r.lane == 4)) position r))
      (found (told_to worker width es))
  found_step None position r b s es = seen_found position r b s (told_to worker width es) _ refl
  found_step (Some place) position r b s es =
      leave_found position r.time r.vid place (told_to worker width (Seen position r b s ∷ es)) _
      ∙ seen_found position r b s (told_to worker width es) _ refl

  -- those of several add what the rules tell at theirs
  found_after : (before rest : List Tuple) →
      found (told_to worker width (flat_map events_at (moments_after before rest))) ≡ filter_map rule_at
      (moments_after before rest)
  found_after before [] = refl
  found_after before (ReportTuple r ∷ xs) =
      let own = trail (reports before) r.vid in
      found_step (left_by own r) (length before) r (begins (previous (sights_of before r.vid)) r)
      (stands (r ∷ own) (place_of r)) (flat_map events_at (moments_after (before ++ ReportTuple r ∷ []) xs))
      ∙ ap (cons_option (rule_at (before, ReportTuple r))) (found_after (before ++ ReportTuple r ∷ []) xs)
  found_after before (Balance time vid qid ∷ xs) = found_after (before ++ Balance time vid qid ∷ []) xs
  found_after before (Spent time vid xway qid of_day ∷ xs) =
      found_after (before ++ Spent time vid xway qid of_day ∷ []) xs
  found_after before (Travel time ∷ xs) = found_after (before ++ Travel time ∷ []) xs

  -- all findings of a worker
  pub found_all : findings [] mine tariffs ≡ filter_map rule_at (moments day)
  found_all = found_after [] day

  -- whether a report is on the worker's ways
  abbrev is_its : Sight → Bool
  is_its s = worker_for (way_of (stretch_of s.1)) width == worker

  -- reports with what the rules find for them
  abbrev with_rules : List Sight → List (ℕ × StretchTold)
  with_rules ss = map (λ s. (s.0, rules day tariffs s)) ss

  -- one report that is told, or not, and the worker's, or not
  told_step : (b t : Bool) (position : ℕ) (r : Report) (fs : List (ℕ × StretchTold)) (ss : List Sight) →
      is_its (position, r) ≡ t → fs ≡ with_rules (filter is_its ss) →
      cons_option (kept_if t (by_rules b position r)) fs ≡ with_rules
      (filter is_its (cons_option (told_if b (position, r)) ss))
  told_step true true position r fs ss e h = ap (λ xs. (position, rules day tariffs (position, r)) ∷ xs) h
      ∙ sym (ap with_rules (cond-true (is_its (position, r)) ((position, r) ∷ filter is_its ss) (filter is_its ss) e))
  told_step true false position r fs ss e h =
      h ∙ sym (ap with_rules
      (cond-false (is_its (position, r)) ((position, r) ∷ filter is_its ss) (filter is_its ss) e))
  told_step false true position r fs ss e h = h
  told_step false false position r fs ss e h = h

  -- what the rules tell at moments, as findings of the reports that are told
  told_after : (ms : List Moment) → filter_map rule_at ms ≡ with_rules (filter is_its (filter_map told_sight ms))
  told_after [] = refl
  told_after ((before, ReportTuple r) ∷ ms) =
      told_step (is_told (previous (sights_of before r.vid)) r) (is_its (length before, r)) (length before) r _
      (filter_map told_sight ms) refl (told_after ms)
  told_after ((before, Balance time vid qid) ∷ ms) = told_after ms
  told_after ((before, Spent time vid xway qid of_day) ∷ ms) = told_after ms
  told_after ((before, Travel time) ∷ ms) = told_after ms

  -- they are those of the rules for the worker's reports that are told
  pub found_whole : findings [] mine tariffs ≡ map (λ s. (s.0, rules day tariffs s)) (told_sights day worker width)
  found_whole = found_all ∙ told_after (moments day)

  -- a report at another position adds nothing at this one
  apart_report : (n position : ℕ) (r : Report) (t b : Bool) (fs : List (ℕ × StretchTold)) → (position == n) ≡ false →
      found_at n (cons_option (kept_if t (by_rules b position r)) fs) ≡ found_at n fs
  apart_report n position r true true fs h = cond-false (position == n) _ _ h
  apart_report n position r true false fs h = refl
  apart_report n position r false b fs h = refl

  -- nor does another tuple
  apart : (n : ℕ) (before : List Tuple) (x : Tuple) (fs : List (ℕ × StretchTold)) → (length before == n) ≡ false →
      found_at n (cons_option (rule_at (before, x)) fs) ≡ found_at n fs
  apart n before (ReportTuple r) fs h = apart_report n (length before) r _ _ fs h
  apart n before (Balance time vid qid) fs h = refl
  apart n before (Spent time vid xway qid of_day) fs h = refl
  apart n before (Travel time) fs h = refl

  -- the tuples before a position have no finding there
  none_below : (n : ℕ) (before xs : List Tuple) → length before + length xs ≤ n →
      found_at n (filter_map rule_at (moments_after before xs)) ≡ []
  none_below n before [] h = refl
  none_below n before (x ∷ xs) h =
      apart n before x _ (ne_eqb (length before) n (λ e. absurd (omega (arith, h, e))))
      ∙ none_below n (before ++ x ∷ []) xs (omega (arith, h, length_push before x))

  -- nor have those after it
  none_above : (n : ℕ) (before xs : List Tuple) → n < length before →
      found_at n (filter_map rule_at (moments_after before xs)) ≡ []
  none_above n before [] h = refl
  none_above n before (x ∷ xs) h =
      apart n before x _ (ne_eqb (length before) n (λ e. absurd (omega (arith, h, e))))
      ∙ none_above n (before ++ x ∷ []) xs (omega (arith, h, length_push before x))

  -- a report that is told has its finding at its position
  here : (position : ℕ) (r : Report) (t b : Bool) (fs : List (ℕ × StretchTold)) → t ≡ true → b ≡ true →
      found_at position (cons_option (kept_if t (by_rules b position r)) fs)
      ≡ (position, finding_at (reports day) tariffs r) ∷ found_at position fs
  here position r true true fs h g = cond-true (position == position) _ _ (number_same position)
  here position r true false fs h g = absurd (false≢true g)
  here position r false b fs h g = absurd (false≢true h)

  -- one that is another worker's has none
  elsewhere : (position : ℕ) (o : Option (ℕ × StretchTold)) (t : Bool) (fs : List (ℕ × StretchTold)) → t ≡ false →
      found_at position (cons_option (kept_if t o) fs) ≡ found_at position fs
  elsewhere position o true fs h = absurd (false≢true (sym h))
  elsewhere position o false fs h = refl

  -- the findings at a position are those of its moment
  only_here : (before later : List Tuple) (r : Report) → day ≡ before ++ ReportTuple r ∷ later →
      found_at (length before) (findings [] mine tariffs) ≡ found_at (length before)
      (cons_option (rule_at (before, ReportTuple r))
      (filter_map rule_at (moments_after (before ++ ReportTuple r ∷ []) later)))
  only_here before later r parts =
      let n = length before in
      let rest = moments_after (before ++ ReportTuple r ∷ []) later in
      ap (found_at n) (found_all ∙ ap (λ d. filter_map rule_at (moments d)) parts
      ∙ ap (filter_map rule_at) (moments-append [] before (ReportTuple r ∷ later))
      ∙ filter_map-append rule_at (moments before) ((before, ReportTuple r) ∷ rest))
      ∙ filter-append (λ f. f.0 == n) (filter_map rule_at (moments before))
      (filter_map rule_at ((before, ReportTuple r) ∷ rest))
      ∙ ap (λ fs. fs ++ found_at n (cons_option (rule_at (before, ReportTuple r)) (filter_map rule_at rest)))
      (none_below n [] before (omega arith))

  -- the tuples after a report have none at its position
  none_later : (before later : List Tuple) (r : Report) →
      found_at (length before) (filter_map rule_at (moments_after (before ++ ReportTuple r ∷ []) later)) ≡ []
  none_later before later r =
      none_above (length before) (before ++ ReportTuple r ∷ []) later
      (omega (arith, length_push before (ReportTuple r)))

  -- the one finding at the position of a report that is told
  pub one_at : (before later : List Tuple) (r : Report) → day ≡ before ++ ReportTuple r ∷ later →
      worker_for (way_of (stretch_of r)) width ≡ worker → is_told (previous (sights_of before r.vid)) r ≡ true →
      found_at (length before) (findings [] mine tariffs) ≡ (length before, rules day tariffs (length before, r)) ∷ []
  one_at before later r parts its told =
      only_here before later r parts
      ∙ here (length before) r _ _ (filter_map rule_at (moments_after (before ++ ReportTuple r ∷ []) later))
      (ap (λ w. w == worker) its ∙ number_same worker) told
      ∙ ap (λ fs. (length before, rules day tariffs (length before, r)) ∷ fs) (none_later before later r)

  -- none at the position of a report that is another worker's
  pub none_at : (before later : List Tuple) (r : Report) → day ≡ before ++ ReportTuple r ∷ later →
      (worker_for (way_of (stretch_of r)) width == worker) ≡ false →
      found_at (length before) (findings [] mine tariffs) ≡ []
  none_at before later r parts other =
      only_here before later r parts
      ∙ elsewhere (length before) _ _ (filter_map rule_at (moments_after (before ++ ReportTuple r ∷ []) later))
      other ∙ none_later before later r
