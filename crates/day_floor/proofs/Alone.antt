-- one worker at most finds something at a position
use Rattle.std.proofs.Common.{◌≡◌, ℕ, ◌+◌, ◌≤◌, ◌<◌, ◌==◌, ◌&&◌, ◌⊎◌, ⊎_elim, inl, inr, Bool, true, false, cond, List}
use Rattle.std.proofs.Common.{[], ◌∷◌, ◌++◌, length, map, refl, sym, ap, ◌∙◌, arith}
use Rattle.std.specs.List.{filter, filter_map, cons_option}
use Rattle.std.proofs.lemmas.List.{length_push}
use Rattle.std.proofs.lemmas.Bool.{cases_eq, eqb-true, ne_eqb}
use Rattle.road_time.specs.declared.road.Tuple.{Tuple}
use Rattle.road_time.specs.declared.road.Tuple.TheVariants.{Report as ReportTuple, Balance, Spent, Travel}
use Rattle.road_time.specs.declared.road.Report.{Report}
use Rattle.road_time.specs.Order.{AreTimesInOrder}
use Rattle.road_time.specs.Ways.{way_of, worker_for}
use Rattle.road_time.specs.Tuples.{stretch_of}
use Rattle.road_time.specs.Rates.{Tariffs}
use Rattle.road_time.specs.Sights.{Sight, moments_after, sights_of, previous}
use Rattle.road_time.specs.Stays.{is_told}
use Rattle.road_time.specs.Tolls.{StretchTold}
use Rattle.road_time.specs.Day.{rules, told_if, told_sight}
use Rattle.ways_expressway.specs.Events.{events_for}
use Rattle.ways_expressway.specs.Findings.{findings, found_at}
use Rattle.ways_expressway.proofs.FindingLaws.{found_whole}

module _ (day : List Tuple) (tariffs : Tariffs) (width p : ℕ) where
  -- the worker of a report
  abbrev its : Sight → ℕ
  its s = worker_for (way_of (stretch_of s.1)) width

  -- what a worker finds at the position, of reports that are told
  abbrev found_of : ℕ → List Sight → List (ℕ × StretchTold)
  found_of v ss = found_at p (map (λ s. (s.0, rules day tariffs s)) (filter (λ s. its s == v) ss))

  -- a report of another position, or of another worker, adds nothing
  none_here : (v : ℕ) (s : Sight) (ss : List Sight) (t u : Bool) → (its s == v) ≡ t → (s.0 == p) ≡ u → (t && u) ≡ false
      → found_of v (s ∷ ss) ≡ found_of v ss
  none_here v s ss true true e g h = cc
  none_here v s ss true false e g h =
      ap (λ t. found_at p
      (map (λ s. (s.0, rules day tariffs s))
      (cond t (s ∷ filter (λ s. its s == v) ss) (filter (λ s. its s == v) ss)))) e
      ∙ ap (λ u. cond u ((s.0, rules day tariffs s) ∷ found_of v ss) (found_of v ss)) g
  none_here v s ss false u e g h =
      ap (λ t. found_at p
      (map (λ s. (s.0, rules day tariffs s)) (cond t (s ∷ filter (λ s. its s == v) ss) (filter (λ s. its s == v) ss))))
      e

  -- no test is met where one is not
  no_more : (t : Bool) → (t && false) ≡ false
  no_more true = refl
  no_more false = refl

  -- a report at another position adds nothing, whether it is told or not
  other_here : (v : ℕ) (b : Bool) (s : Sight) (ss : List Sight) → (s.0 == p) ≡ false →
      found_of v (cons_option (told_if b s) ss) ≡ found_of v ss
  other_here v true s ss e = none_here v s ss (its s == v) false refl e (no_more (its s == v))
  other_here v false s ss e = refl

  -- tuples after the position have nothing there
  none_after : (v : ℕ) (before xs : List Tuple) → p < length before →
      found_of v (filter_map told_sight (moments_after before xs)) ≡ []
  none_after v before [] h = refl
  none_after v before (ReportTuple r ∷ xs) h =
      other_here v (is_told (previous (sights_of before r.vid)) r) (length before, r) _
      (ne_eqb (length before) p (λ e. absurd (omega (arith, h, e))))
      ∙ none_after v (before ++ ReportTuple r ∷ []) xs (omega (arith, h, length_push before (ReportTuple r)))
  none_after v before (Balance time vid qid ∷ xs) h =
      none_after v (before ++ Balance time vid qid ∷ []) xs
      (omega (arith, h, length_push before (Balance time vid qid)))
  none_after v before (Spent time vid xway qid of_day ∷ xs) h =
      none_after v (before ++ Spent time vid xway qid of_day ∷ []) xs
      (omega (arith, h, length_push before (Spent time vid xway qid of_day)))
  none_after v before (Travel time ∷ xs) h =
      none_after v (before ++ Travel time ∷ []) xs (omega (arith, h, length_push before (Travel time)))

  -- a report adds one finding at most
  one_here : (v : ℕ) (s : Sight) (ss : List Sight) (t u : Bool) → (its s == v) ≡ t → (s.0 == p) ≡ u →
      length (found_of v (s ∷ ss)) ≤ 1 + length (found_of v ss)
  one_here v s ss true true e g =
      let is =
      ap (λ t. found_at p
      (map (λ s. (s.0, rules day tariffs s))
      (cond t (s ∷ filter (λ s. its s == v) ss) (filter (λ s. its s == v) ss)))) e
      ∙ ap (λ u. cond u ((s.0, rules day tariffs s) ∷ found_of v ss) (found_of v ss)) g in
      omega (arith, ap length is)
  one_here v s ss true false e g = omega (arith, ap length (none_here v s ss true false e g refl))
  one_here v s ss false u e g = omega (arith, ap length (none_here v s ss false u e g refl))

  -- with later ones
  few_more : (v : ℕ) (b : Bool) (before : List Tuple) (r : Report) (ss : List Sight) →
      (p < length (before ++ ReportTuple r ∷ []) → found_of v ss ≡ []) → length (found_of v ss) ≤ 1 →
      length (found_of v (cons_option (told_if b (length before, r)) ss)) ≤ 1
  few_more v false before r ss none h = h
  few_more v true before r ss none h =
      ⊎_elim
      (λ e.
      let after : p < length (before ++ ReportTuple r ∷ []) = omega (arith, e, length_push before (ReportTuple r)) in
      omega (
        arith,
        one_here v (length before, r) ss (its (length before, r) == v) (length before == p) refl refl,
        ap length (none after),
      ))
      (λ e. omega (arith, h, ap length (other_here v true (length before, r) ss (ne_eqb (length before) p e))))
      (cases_eq (length before) p)

  -- a worker finds one thing at most at the position
  few_of : (v : ℕ) (before xs : List Tuple) → length (found_of v (filter_map told_sight (moments_after before xs))) ≤ 1
  few_of v before [] = omega arith
  few_of v before (ReportTuple r ∷ xs) =
      few_more v (is_told (previous (sights_of before r.vid)) r) before r _
      (none_after v (before ++ ReportTuple r ∷ []) xs) (few_of v (before ++ ReportTuple r ∷ []) xs)
  few_of v before (Balance time vid qid ∷ xs) = few_of v (before ++ Balance time vid qid ∷ []) xs
  few_of v before (Spent time vid xway qid of_day ∷ xs) = few_of v (before ++ Spent time vid xway qid of_day ∷ []) xs
  few_of v before (Travel time ∷ xs) = few_of v (before ++ Travel time ∷ []) xs

  -- one of two workers has nothing there
  module _ (v w : ℕ) (ne : v ≡ w → ⊥) where
    abbrev OneNot : List Sight → Type 0
    OneNot ss = (found_of v ss ≡ []) ⊎ (found_of w ss ≡ [])

    -- a report at the position is of one worker
    here : (s : Sight) (ss : List Sight) → found_of v ss ≡ [] → found_of w ss ≡ [] → (t : Bool) → (its s == v) ≡ t →
        OneNot (s ∷ ss)
    here s ss a b true g =
        inr (none_here w s ss false (s.0 == p) (ne_eqb (its s) w (λ q. absurd (ne (sym (eqb-true (its s) v g) ∙ q))))
        refl refl ∙ b)
    here s ss a b false g = inl (none_here v s ss false (s.0 == p) g refl refl ∙ a)

    -- a report elsewhere changes nothing
    elsewhere : (b : Bool) (s : Sight) (ss : List Sight) → (s.0 == p) ≡ false → OneNot ss →
        OneNot (cons_option (told_if b s) ss)
    elsewhere b s ss e h = ⊎_elim (λ a. inl (other_here v b s ss e ∙ a)) (λ a. inr (other_here w b s ss e ∙ a)) h

    -- one report more, with later ones
    one_more : (b : Bool) (before : List Tuple) (r : Report) (ss : List Sight) →
        (p < length (before ++ ReportTuple r ∷ []) → (found_of v ss ≡ []) × (found_of w ss ≡ [])) → OneNot ss →
        OneNot (cons_option (told_if b (length before, r)) ss)
    one_more false before r ss none h = h
    one_more true before r ss none h =
        ⊎_elim
        (λ e. let both = none (omega (arith, e, length_push before (ReportTuple r))) in
        here (length before, r) ss both.0 both.1 (its (length before, r) == v) refl)
        (λ e. elsewhere true (length before, r) ss (ne_eqb (length before) p e) h)
        (cases_eq (length before) p)

    one_not : (before xs : List Tuple) → OneNot (filter_map told_sight (moments_after before xs))
    one_not before [] = inl refl
    one_not before (ReportTuple r ∷ xs) =
        one_more (is_told (previous (sights_of before r.vid)) r) before r _
        (λ h. (none_after v (before ++ ReportTuple r ∷ []) xs h, none_after w (before ++ ReportTuple r ∷ []) xs h))
        (one_not (before ++ ReportTuple r ∷ []) xs)
    one_not before (Balance time vid qid ∷ xs) = one_not (before ++ Balance time vid qid ∷ []) xs
    one_not before (Spent time vid xway qid of_day ∷ xs) = one_not (before ++ Spent time vid xway qid of_day ∷ []) xs
    one_not before (Travel time ∷ xs) = one_not (before ++ Travel time ∷ []) xs

-- of two workers one finds nothing at a position
pub alone : (day : List Tuple) → AreTimesInOrder day → (tariffs : Tariffs) (width p v w : ℕ) → (v ≡ w → ⊥) →
    (found_at p (findings [] (events_for day v width) tariffs) ≡ [])
    ⊎ (found_at p (findings [] (events_for day w width) tariffs) ≡ [])
alone day order tariffs width p v w ne =
    ⊎_elim
    (λ a. inl (ap (found_at p) (found_whole day order tariffs v width) ∙ a))
    (λ b. inr (ap (found_at p) (found_whole day order tariffs w width) ∙ b))
    (one_not day tariffs width p v w ne [] day)

-- a worker finds one thing at most at a position
pub few : (day : List Tuple) → AreTimesInOrder day → (tariffs : Tariffs) (width p v : ℕ) →
    length (found_at p (findings [] (events_for day v width) tariffs)) ≤ 1
few day order tariffs width p v = rw (found_whole day order tariffs v width) (few_of day tariffs width p v [] day)
