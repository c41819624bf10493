-- what is settled up to a mark does not wait for what is out
use Rattle.std.proofs.Common.{◌≡◌, ℕ, zero, suc, ◌+◌, ◌≤◌, ◌<◌, ◌==◌, ◌&&◌, not, Bool, true, false, List, [], ◌∷◌, ◌++◌}
use Rattle.std.proofs.Common.{length, map, refl, sym, ap, ◌∙◌, arith}
use Rattle.std.specs.List.{filter_map, flat_map, range_with_len, AllByRecursion, cons_option}
use Rattle.std.proofs.lemmas.List.{append-nil, append_assoc, length-append}
use Rattle.std.proofs.lemmas.List.Elements.{filter-append}
use Rattle.std.proofs.lemmas.Bool.{cond-false, ne_eqb}
use Rattle.road_time.specs.declared.road.Tuple.{Tuple}
use Rattle.road_time.specs.declared.road.Tuple.TheVariants.{Report as ReportTuple}
use Rattle.road_time.specs.declared.road.Report.{Report}
use Rattle.road_time.specs.Order.{AreTimesInOrder}
use Rattle.road_time.specs.Notes.{Note}
use Rattle.road_time.specs.Rates.{Tariffs}
use Rattle.road_time.specs.Stops.{Stop}
use Rattle.road_time.specs.Sights.{moments, sights_of, previous}
use Rattle.road_time.specs.Stays.{is_told}
use Rattle.road_time.specs.Tolls.{StretchTold}
use Rattle.road_time.specs.Day.{rules, given, charges_by, charges_between, notices_by, notices, charges, merged}
use Rattle.road_time.proofs.SightLaws.{moments_first}
use Rattle.road_time.proofs.DayLaws.{prefix_at}
use Rattle.road_time.proofs.FindingLaws.{AgreeAt, notices_same, charges_same, charges_same_between}
use Rattle.road_time.proofs.StepLaws.{between_start}
use Rattle.ways_expressway.specs.declared.lane_event.LaneEvent.{LaneEvent}
use Rattle.ways_expressway.specs.declared.lane_event.LaneEvent.TheVariants.{Seen, Leave}
use Rattle.ways_expressway.specs.Events.{events_for}
use Rattle.ways_expressway.specs.Findings.{found_if, finding_of, findings, found_at}
use Rattle.ways_expressway.specs.Laws.{AreBack, AreGiven, HaveTheirPositions}
use Rattle.ways_expressway.proofs.PositionLaws.{From, events_rise, rise_rest, all_from}
use Rattle.ways_expressway.proofs.RunLaws.{may_run}
use Rattle.ways_expressway.proofs.JobLaws.{findings_split}
use Rattle.ways_expressway.proofs.MergeLaws.{AreRules, agree}
use Rattle.ways_expressway.proofs.PartitionLaws.{found_one, first_is}

-- a finding of another position is none at this one
none_when : (i position : ℕ) (b : Bool) (ns : List Note) (us : ℕ → List Stop) (tariffs : Tariffs) (r : Report)
    (fs : List (ℕ × StretchTold)) → (position == i) ≡ false →
    found_at i (cons_option (found_if b ns us tariffs position r) fs) ≡ found_at i fs
none_when i position true ns us tariffs r fs h = cond-false (position == i) _ _ h
none_when i position false ns us tariffs r fs h = refl

-- events of later positions give no finding at an earlier one
none_found : (i n : ℕ) (ns : List Note) (us : ℕ → List Stop) (tariffs : Tariffs) (es : List LaneEvent) → i < n →
    From n es → found_at i (filter_map (finding_of ns us tariffs) es) ≡ []
none_found i n ns us tariffs [] h l = refl
none_found i n ns us tariffs (Seen position r b stopped ∷ es) h l =
    none_when i position (b && not (r.lane == 4)) ns us tariffs r _
    (ne_eqb position i (λ e. absurd (omega (arith, h, l.0, e)))) ∙ none_found i n ns us tariffs es h l.1
none_found i n ns us tariffs (Leave position time vid place ∷ es) h l = none_found i n ns us tariffs es h l.1

-- the events that are back find at an earlier position what all of the worker's find
back_same : (day : List Tuple) (tariffs : Tariffs) (worker width i n : ℕ) (back out : List LaneEvent) →
    AreTimesInOrder day → events_for day worker width ≡ back ++ out → i < n → From n out →
    found_at i (findings [] back tariffs) ≡ found_at i (findings [] (events_for day worker width) tariffs)
back_same day tariffs worker width i n back out order parts h l =
    sym (
    ap (λ es. found_at i (findings [] es tariffs)) parts
    ∙ ap (found_at i) (findings_split [] back out tariffs (rw (← parts) (may_run worker width day order)))
    ∙ filter-append (λ f. f.0 == i) (findings [] back tariffs) (findings back out tariffs)
    ∙ ap (λ fs. found_at i (findings [] back tariffs) ++ fs) (none_found i n _ _ tariffs out h l)
    ∙ append-nil (found_at i (findings [] back tariffs)))

-- joined lists of equal parts
joined_same : {X : Type 0} {a b c d : List X} → a ≡ c → b ≡ d → a ++ b ≡ c ++ d
joined_same p q = rw (p, q) refl

module _ (day : List Tuple) (order : AreTimesInOrder day) (tariffs : Tariffs) (width n : ℕ)
    (back out : ℕ → List LaneEvent)
    (are : AreBack day width n back out) where
  -- what is out is of no position below the mark
  later_out : (worker : ℕ) → worker < width → From n (out worker)
  later_out worker h =
      all_from n (out worker)
      (rise_rest (back worker) (out worker) (rw (← are.whole worker h) (events_rise day worker width)))
      (are.next worker h)

  -- so it is for all workers together
  all_back : (i : ℕ) → i < n → (worker k : ℕ) → worker + k ≤ width →
      found_at i (flat_map (λ w. findings [] (back w) tariffs) (range_with_len worker k)) ≡ found_at i
      (flat_map (λ w. findings [] (events_for day w width) tariffs) (range_with_len worker k))
  all_back i h worker zero l = refl
  all_back i h worker (suc k) l =
      let one : worker < width = omega (arith, l) in
      filter-append (λ f. f.0 == i) (findings [] (back worker) tariffs)
      (flat_map (λ w. findings [] (back w) tariffs) (range_with_len (worker + 1) k))
      ∙ joined_same
      (back_same day tariffs worker width i n (back worker) (out worker) order (are.whole worker one) h
      (later_out worker one)) (all_back i h (worker + 1) k (omega (arith, l)))
      ∙ sym (filter-append (λ f. f.0 == i) (findings [] (events_for day worker width) tariffs)
      (flat_map (λ w. findings [] (events_for day w width) tariffs) (range_with_len (worker + 1) k)))

-- a tuple of the first ones has a position below their number
shorter : (first before rest : List Tuple) (x : Tuple) (n : ℕ) → first ≡ before ++ x ∷ rest → length first ≡ n →
    length before < n
shorter first before rest x n e l = omega (arith, l, ap length e, length-append before (x ∷ rest))

-- one position, one finding
one_value : (i : ℕ) (fs : List (ℕ × StretchTold)) → map (λ f. f.0) fs ≡ i ∷ [] → (f : StretchTold) × (fs ≡ (i, f) ∷ [])
one_value i [] e = absurd (none_one i e)
  where
    none_one : (i : ℕ) → ◌≡◌ {A = List ℕ} [] (i ∷ []) → ⊥
    none_one i e = cc
one_value i (f ∷ []) e = (f.1, ap (λ p. (p, f.1) ∷ []) (head_is f.0 i [] [] e))
  where
    head_is : (a b : ℕ) (xs ys : List ℕ) → a ∷ xs ≡ b ∷ ys → a ≡ b
    head_is a b xs ys e = cc
one_value i (f ∷ g ∷ fs) e = absurd (two_one f.0 g.0 i (map (λ h. h.0) fs) e)
  where
    two_one : (a b i : ℕ) (xs : List ℕ) → a ∷ b ∷ xs ≡ i ∷ [] → ⊥
    two_one a b i xs e = cc

module _ (first later : List Tuple) (order : AreTimesInOrder (first ++ later)) (tariffs : Tariffs) (width : ℕ)
    (some : 1 ≤ width) (n : ℕ) (long : length first ≡ n)
    (back out : ℕ → List LaneEvent) (are : AreBack (first ++ later) width n back out) where
  -- what the workers gave for a position of the first tuples that is told
  found_back : (before rest : List Tuple) (r : Report) → first ≡ before ++ ReportTuple r ∷ rest →
      is_told (previous (sights_of before r.vid)) r ≡ true →
      found_at (length before) (flat_map (λ w. findings [] (back w) tariffs) (range_with_len 0 width))
      ≡ (length before, rules (first ++ later) tariffs (length before, r)) ∷ []
  found_back before rest r split told =
      let i = length before in
      let whole : first ++ later ≡ before ++ ReportTuple r ∷ (rest ++ later) = ap (λ d. d ++ later) split
      ∙ append_assoc before (ReportTuple r ∷ rest) later in
      all_back (first ++ later) order tariffs width n back out are i
      (shorter first before rest (ReportTuple r) n split long) 0 width (omega arith)
      ∙ found_one (first ++ later) order tariffs width some before (rest ++ later) r whole told

  -- there is one finding given for it
  pub one_given : (found : List (ℕ × StretchTold)) → HaveTheirPositions tariffs width back found →
      (before rest : List Tuple) (r : Report) → first ≡ before ++ ReportTuple r ∷ rest →
      is_told (previous (sights_of before r.vid)) r ≡ true →
      (f : StretchTold) × (found_at (length before) found ≡ (length before, f) ∷ [])
  one_given found same before rest r split told =
      one_value (length before) (found_at (length before) found)
      (same (length before) ∙ ap (map (λ f. f.0)) (found_back before rest r split told))

module _ (first later : List Tuple) (order : AreTimesInOrder (first ++ later)) (tariffs : Tariffs) (width : ℕ)
    (some : 1 ≤ width) (n : ℕ) (long : length first ≡ n)
    (back out : ℕ → List LaneEvent) (are : AreBack (first ++ later) width n back out) (found : List (ℕ × StretchTold))
    (all_given : AreGiven tariffs width back found) where
  -- what is given is what the rules find
  are_rules : AreRules (first ++ later) tariffs first found
  are_rules before rest r split told =
      first_is (length before) (rules (first ++ later) tariffs (length before, r)) found
      (all_given (length before)
      ∙ found_back first later order tariffs width some n long back out are before rest r split told)

  -- it agrees with them at each moment
  agreed : AllByRecursion (AgreeAt (given found) (rules (first ++ later) tariffs)) (moments first)
  agreed = agree (first ++ later) tariffs first found are_rules

  -- it makes the notices of the first tuples
  pub settled : (number : ℕ) (kept : ℕ → ℕ → ℕ → ℕ) → merged first found number kept ≡ notices first tariffs number kept
  settled number kept =
      notices_same (given found) (rules (first ++ later) tariffs) number kept first agreed
      ∙ sym (ap (notices_by (rules (first ++ later) tariffs) number kept) (moments_first first later))
      ∙ (prefix_at first later order tariffs number kept).0

  -- their charges
  pub settled_charges : charges_by (given found) (moments first) ≡ charges (first ++ later) tariffs (moments first)
  settled_charges = charges_same (given found) (rules (first ++ later) tariffs) first agreed

  -- and those between positions
  pub settled_between : (a b : ℕ) → b ≤ n →
      charges_between (given found) (first ++ later) a b ≡ charges_between (rules (first ++ later) tariffs)
      (first ++ later) a b
  settled_between a b h =
      let inside : b ≤ length first = omega (arith, h, long) in
      sym (between_start (given found) first later a b inside)
      ∙ charges_same_between (given found) (rules (first ++ later) tariffs) first agreed a b
      ∙ between_start (rules (first ++ later) tariffs) first later a b inside
