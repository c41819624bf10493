-- what a job finds could be, and so its result has the shape of one
use Rattle.std.proofs.Common.{◌≡◌, ℕ, ◌+◌, ◌-◌, ◌/◌, ◌≤◌, ◌==◌, ◌&&◌, ◌⊎◌, ⊎_elim, inl, inr, Bool, true, false}
use Rattle.std.proofs.Common.{cond, not, List, [], ◌∷◌, ◌++◌, map, IfSome, Option, Some, None, Result, Ok, Err}
use Rattle.std.proofs.Common.{nat_le, refl, sym, ap, ◌∙◌, arith, subst}
use Rattle.std.specs.List.{filter_map, find, cons_option, AllByRecursion}
use Rattle.std.specs.Result.{OnOk, OnErr}
use Rattle.std.proofs.lemmas.List.{map-append}
use Rattle.std.proofs.lemmas.List.Elements.{All-from_recursion, recursion_from_All, filter_map-append}
use Rattle.std.proofs.lemmas.Bool.{cond_both, leb-true}
use Rattle.road_time.specs.declared.tariff.TheConstants.{GREATEST_TOLL}
use Rattle.road_time.specs.declared.road.Report.{Report}
use Rattle.road_time.specs.declared.road.Stretch.{Stretch}
use Rattle.road_time.specs.declared.road.Frac.{Frac}
use Rattle.road_time.specs.declared.road.Tuple.TheVariants.{Report as ReportTuple}
use Rattle.road_time.specs.declared.day.TheConstants.Limits.{DAY}
use Rattle.road_time.specs.Clock.{minute_of}
use Rattle.road_time.specs.Ways.{downstream_of}
use Rattle.road_time.specs.Tuples.{stretch_of}
use Rattle.road_time.specs.Notes.{Note, cars}
use Rattle.road_time.specs.Lav.{lav, IsAverage}
use Rattle.road_time.specs.Rates.{Tariffs, tariff_of}
use Rattle.road_time.specs.Stops.{Stop, segments_ahead, near}
use Rattle.road_time.specs.Entries.{standing_at}
use Rattle.road_time.specs.Fits.{IsReport, IsValid}
use Rattle.road_time.specs.Tolls.{StretchTold, notes_of, finding_by}
use Rattle.road_time.specs.Text.{is_lav}
use Rattle.road_time.proofs.EachLaws.{left_part, right_part}
use Rattle.road_time.proofs.LavLaws.{lav_is}
use Rattle.ways_expressway.specs.declared.lane_event.LaneEvent.{LaneEvent}
use Rattle.ways_expressway.specs.declared.lane_event.LaneEvent.TheVariants.{Seen, Leave}
use Rattle.ways_expressway.specs.declared.finding.Finding.{Finding as CodeFinding}
use Rattle.ways_expressway.specs.declared.job.Job.{Job}
use Rattle.ways_expressway.specs.declared.job.Done.{Done}
use Rattle.ways_expressway.specs.Events.{seen, entries, report_seen}
use Rattle.ways_expressway.specs.Findings.{shown, found_if, finding_of, findings}
use Rattle.ways_expressway.specs.Ready.{CanRun}
use Rattle.ways_expressway.specs.Results.{AreFirst, IsResultOf, IsResultShaped, IsPossible, positions}
use Rattle.ways_expressway.proofs.ReadyLaws.{as_tuples, reports_back}
use Rattle.road_time.proofs.BoundLaws.{toll_of_few, segments_few}
use Rattle.road_time.proofs.OutLaws.{lav_valid}

-- a finding that could be, as the definitions have it
abbrev CouldBe : ℕ × StretchTold → Type 0
CouldBe f = (is_lav f.1.lav ≡ true) × (f.1.toll ≤ GREATEST_TOLL) × IfSome f.1.alert (λ s. s ≤ 99)

-- a segment that may be none
abbrev Few : Option ℕ → Type 0
Few o = IfSome o (λ s. s ≤ 99)

-- a segment under a test, or none
few_if : (b : Bool) (s : ℕ) → (b ≡ true → s ≤ 99) → Few (cond b (Some s) None)
few_if true s h = h refl
few_if false s h = tt

-- a segment ahead is one of the road
ahead_few : (s dir i : ℕ) → s ≤ 99 → Few (downstream_of s dir i)
ahead_few s dir i h =
    cond_both (dir == 0) (cond (nat_le (s + i) 99) (Some (s + i)) None) (cond (nat_le i s) (Some (s - i)) None) Few
    (λ _. few_if (nat_le (s + i) 99) (s + i) (λ e. leb-true (s + i) 99 e))
    (λ _. few_if (nat_le i s) (s - i) (λ _. omega (arith, h)))

-- one more segment, if there is one
few_more : (o : Option ℕ) (ts : List ℕ) → Few o → AllByRecursion (λ t. t ≤ 99) ts →
    AllByRecursion (λ t. t ≤ 99) (cons_option o ts)
few_more None ts f h = h
few_more (Some t) ts f h = (f, h)

-- and so is the first of them that passes a test
find_few : (p : ℕ → Bool) (ts : List ℕ) → AllByRecursion (λ t. t ≤ 99) ts → Few (find p ts)
find_few p [] h = tt
find_few p (u ∷ us) h = cond_both (p u) (Some u) (find p us) Few (λ _. h.0) (λ _. find_few p us h.1)

-- the nearest accident is in one
near_few : (stops_at : ℕ → List Stop) (m : ℕ) (k : Stretch) → k.seg ≤ 99 → Few (near stops_at m k)
near_few stops_at m k h = find_few _ (segments_ahead k) (segments_few k.seg k.dir (0 ∷ 1 ∷ 2 ∷ 3 ∷ 4 ∷ []) h)

module _ (ns : List Note) (stops_at : ℕ → List Stop) (tariffs : Tariffs)
    (good : (m : ℕ) (k : Stretch) (f : Frac) → lav ns m k ≡ Some f → IsAverage f) where
  -- what is found for a report could be
  found_could : (position : ℕ) (r : Report) → IsReport r → CouldBe (position, finding_by ns stops_at tariffs r)
  found_could position r v = (
    lav_valid (lav ns (minute_of r.time) (stretch_of r)) (good (minute_of r.time) (stretch_of r)),
    toll_of_few (tariff_of tariffs r.xway) (cars ns (minute_of r.time - 1) (stretch_of r))
        (lav ns (minute_of r.time) (stretch_of r)) _,
    near_few stops_at (minute_of r.time) (stretch_of r) v.6,
  )

  -- what is found for a report, if it is told
  if_could : (b : Bool) (position : ℕ) (r : Report) (fs : List (ℕ × StretchTold)) → IsReport r →
      AllByRecursion CouldBe fs → AllByRecursion CouldBe (cons_option (found_if b ns stops_at tariffs position r) fs)
  if_could true position r fs v h = (found_could position r v, h)
  if_could false position r fs v h = h

  -- what is found for events could be
  each_could : (es : List LaneEvent) → AllByRecursion IsReport (seen es) →
      AllByRecursion CouldBe (filter_map (finding_of ns stops_at tariffs) es)
  each_could [] h = tt
  each_could (Seen position r b s ∷ es) h = if_could (b && not (r.lane == 4)) position r _ h.0 (each_could es h.1)
  each_could (Leave position time vid place ∷ es) h = each_could es h

-- valid tuples are of reports in range
in_range : (rs : List Report) → AllByRecursion IsValid (as_tuples rs) → AllByRecursion IsReport rs
in_range [] h = tt
in_range (r ∷ rs) h = (h.0, in_range rs h.1)

-- all that events find that can be run could be
all_could : (before es : List LaneEvent) (tariffs : Tariffs) → CanRun before es →
    AllByRecursion CouldBe (findings before es tariffs)
all_could before es tariffs can =
    let rs = seen (before ++ es) in
    let parts : as_tuples rs ≡ as_tuples (seen before) ++ as_tuples (seen es) =
    ap as_tuples (filter_map-append report_seen before es)
    ∙ map-append (λ r. ReportTuple r) (seen before) (seen es) in
    let valid =
    right_part IsValid (as_tuples (seen before)) (as_tuples (seen es))
    (subst (AllByRecursion IsValid) parts (recursion_from_All IsValid (as_tuples rs) can.day.valid)) in
    each_could (notes_of rs) (standing_at (entries (before ++ es))) tariffs
    (λ m k f e. lav_is (as_tuples rs) DAY can.day (omega arith) m k f (rw (reports_back rs) e)) es
    (in_range (seen es) valid)

-- findings of the code that could be are possible
possible : (fs : List CodeFinding) → AllByRecursion CouldBe (map shown fs) → AllByRecursion IsPossible fs
possible [] h = tt
possible (f ∷ fs) h = (record { lav = h.0.0; toll = h.0.1; alert = h.0.2 }, possible fs h.1)

-- their positions are those that they show
pub positions_shown : (fs : List CodeFinding) → map (λ f. f.0) (map shown fs) ≡ positions fs
positions_shown [] = refl
positions_shown (f ∷ fs) = ap (λ ps. f.position ∷ ps) (positions_shown fs)

-- an answer by cases
either : {T E P Q : Type 0} (r : Result T E) → OnOk r P → OnErr r Q → P ⊎ Q
either (Ok x) p q = inl p
either (Err e) p q = inr q

-- what follows from what holds, where all went well
pub ok_map : {T E P Q : Type 0} (r : Result T E) → (P → Q) → OnOk r P → OnOk r Q
ok_map (Ok x) f p = f p
ok_map (Err e) f p = tt

-- or where memory ran out
pub err_map : {T E P Q : Type 0} (r : Result T E) → (P → Q) → OnErr r P → OnErr r Q
err_map (Ok x) f p = tt
err_map (Err e) f p = f p

-- the positions of the first findings are the first positions
first_positions : (fs : List CodeFinding) (found : List (ℕ × StretchTold)) → AreFirst (map shown fs) found →
    AreFirst (positions fs) (map (λ f. f.0) found)
first_positions fs found h = (
  map (λ f. f.0) h.0,
  ap (map (λ f. f.0)) h.1 ∙ map-append (λ f. f.0) (map shown fs) h.0
      ∙ ap (λ ps. ps ++ map (λ f. f.0) h.0) (positions_shown fs),
)

-- what is done of a job has the shape of its result
pub shaped : (job : Job) (done : Done) → IsResultOf job done → IsResultShaped job done
shaped job done is = record {
  back = is.back;
  found = ok_map done.result
      (λ f before ready. sym (positions_shown done.findings) ∙ ap (map (λ f. f.0)) (f before ready)) is.found;
  first = err_map done.result
      (λ f before ready. first_positions done.findings (findings before job.events job.carriage.tariffs)
      (f before ready)) is.first;
  possible = λ before ready.
      let could = all_could before job.events job.carriage.tariffs ready.runs in
      All-from_recursion IsPossible done.findings (possible done.findings (⊎_elim
      (λ f. subst (AllByRecursion CouldBe) (sym (f before ready)) could)
      (λ f. left_part CouldBe (map shown done.findings) (f before ready).0
      (subst (AllByRecursion CouldBe) (f before ready).1 could))
      (either done.result is.found is.first)));
}
