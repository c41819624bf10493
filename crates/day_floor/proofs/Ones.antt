-- each position has one finding at most
use Rattle.std.proofs.Common.{◌≡◌, ℕ, zero, suc, ◌+◌, ◌≤◌, ◌<◌, ◌==◌, ◌⊎◌, ⊎_elim, inl, inr, Bool, true, false, cond}
use Rattle.std.proofs.Common.{List, [], ◌∷◌, ◌++◌, length, map, Option, Some, None, refl, sym, ap, ◌∙◌, arith, subst}
use Rattle.std.specs.List.{filter, flat_map, range_with_len, AllByRecursion}
use Rattle.std.specs.Map.{lookup}
use Rattle.std.specs.Option.{unwrap_or}
use Rattle.std.proofs.lemmas.List.{append_assoc, length-append, length-map}
use Rattle.std.proofs.lemmas.List.Elements.{filter-append}
use Rattle.std.proofs.lemmas.Bool.{cases_Bool, eqb-true, eq-eqb, ne_eqb}
use Rattle.road_time.specs.declared.tariff.TheConstants.{GREATEST_TOLL}
use Rattle.road_time.specs.declared.day.Limits.{Limits}
use Rattle.road_time.specs.Sights.{Sight}
use Rattle.road_time.specs.Tolls.{StretchTold}
use Rattle.road_time.specs.Day.{given, no_finding}
use Rattle.road_time.proofs.EachLaws.{left_part, right_part, weakened}
use Rattle.ways_expressway.specs.declared.lane_event.LaneEvent.{LaneEvent}
use Rattle.ways_expressway.specs.Events.{position_told}
use Rattle.ways_expressway.specs.Findings.{findings, found_at}
use Rattle.ways_expressway.proofs.PositionLaws.{events_below}
use Rattle.day_floor.specs.Shares.{State, events_ahead, back_of}
use Rattle.day_floor.specs.Steps.{after_back}
use Rattle.day_floor.specs.Sound.{AreFresh, ReportAt, IsAwaited, CouldBe, CanBack, SoundState, told_positions}
use Rattle.day_floor.proofs.Shapes.{positions_are, positions_at, told_all, found_all}
use Rattle.day_floor.proofs.Alone.{alone, few}
use Rattle.day_floor.proofs.Givens.{found_joined, left_empty, flat_empty, at_three}
use Rattle.day_floor.proofs.Sound.{sound_back}
use Rattle.day_floor.proofs.Events.{OfReport, events_of_reports, all_ahead, all_below}
use Rattle.keep_office.proofs.ListFacts.{no_length}

-- an element or none, and then lists of which the others are empty
few_first : {X : Type 0} (xs ys : List X) → length xs ≤ 1 → length ys ≤ 1 → ((xs ≡ [] → ⊥) → ys ≡ []) →
    length (xs ++ ys) ≤ 1
few_first [] ys h g none = g
few_first {X} (x ∷ xs) ys h g none = let e = none (some x xs) in
    omega (arith, h, length-append (x ∷ xs) ys, ap length e)
  where
    some : (x : X) (xs : List X) → ◌≡◌ {A = List X} (x ∷ xs) [] → ⊥
    some x xs e = cc

-- joined lists of which one at most is not empty, and has one element at most
flat_few : {X : Type 0} (f : ℕ → List X) (width : ℕ) → ((v : ℕ) → v < width → length (f v) ≤ 1) →
    ((v w : ℕ) → v < width → w < width → (v ≡ w → ⊥) → (f v ≡ []) ⊎ (f w ≡ [])) → (a k : ℕ) → a + k ≤ width →
    length (flat_map f (range_with_len a k)) ≤ 1
flat_few f width one only a zero h = omega arith
flat_few f width one only a (suc k) h =
    few_first (f a) (flat_map f (range_with_len (a + 1) k)) (one a (omega (arith, h)))
    (flat_few f width one only (a + 1) k (omega (arith, h)))
    (λ some. flat_empty f (a + 1) k
    (λ v low high. ⊎_elim (λ none. absurd (some none)) (λ none. none)
    (only a v (omega (arith, h)) (omega (arith, h, high)) (λ q. omega (arith, low, q)))))

module _ (width : ℕ) (limits : Limits) (s : State) (sound : SoundState width limits s) where
  -- what a worker's events that are back find at a position
  abbrev of_back : ℕ → ℕ → List (ℕ × StretchTold)
  of_back p v = found_at p (findings [] (back_of s v) [])

  few_back : (p v : ℕ) → v < width → length (of_back p v) ≤ 1
  few_back p v k =
      let all = few s.fed sound.fit.in_order [] width p v in
      omega (
        arith,
        all,
        ap length (at_three [] width limits s sound p v k),
        length-append (of_back p v)
            (found_at p (findings (s.share v).back (s.share v).out []) ++ found_at p
            (findings ((s.share v).back ++ (s.share v).out) (s.share v).waiting [])),
      )

  only_back : (p v w : ℕ) → v < width → w < width → (v ≡ w → ⊥) → (of_back p v ≡ []) ⊎ (of_back p w ≡ [])
  only_back p v w k l ne =
      ⊎_elim
      (λ none. inl (left_empty (of_back p v) _ (sym (at_three [] width limits s sound p v k) ∙ none)))
      (λ none. inr (left_empty (of_back p w) _ (sym (at_three [] width limits s sound p w l) ∙ none)))
      (alone s.fed sound.fit.in_order [] width p v w ne)

  -- as many findings were given for a position as the events that are back find there
  count_at : (p : ℕ) → length (found_at p s.found) ≡ length (flat_map (of_back p) (range_with_len 0 width))
  count_at p =
      sym (length-map (found_at p s.found) (λ f. f.0)) ∙ ap length (sound.positions [] p)
      ∙ length-map (found_at p (flat_map (λ v. findings [] (back_of s v) []) (range_with_len 0 width))) (λ f. f.0)
      ∙ ap length (found_joined p (λ v. findings [] (back_of s v) []) (range_with_len 0 width))

  -- so there is one at most
  pub one_at_most : (p : ℕ) → length (found_at p s.found) ≤ 1
  one_at_most p = omega (arith, count_at p, flat_few (of_back p) width (few_back p) (only_back p) 0 width (omega arith))

  -- and none for a tuple that was not fed
  pub none_yet : (p : ℕ) → length s.fed ≤ p → found_at p s.found ≡ []
  none_yet p h =
      no_length (found_at p s.found)
      (omega (
        arith,
        count_at p,
        ap length
            (flat_empty (of_back p) 0 width (λ v low high. none_of v (omega (arith, high)))),
      ))
    where
      none_at : (ns : List ℕ) → AllByRecursion (λ n. n < length s.fed) ns → filter (λ n. n == p) ns ≡ []
      none_at [] g = refl
      none_at (n ∷ ns) g =
          ap (λ b. cond b (n ∷ filter (λ m. m == p) ns) (filter (λ m. m == p) ns))
          (ne_eqb n p (λ e. absurd (omega (arith, h, e, g.0)))) ∙ none_at ns g.1

      no_map : {X Y : Type 0} (f : X → Y) (xs : List X) → map f xs ≡ [] → xs ≡ []
      no_map f [] e = refl
      no_map f (x ∷ xs) e = cc

      none_of : (v : ℕ) → v < width → of_back p v ≡ []
      none_of v high =
          let below = left_part (λ e. position_told e < length s.fed) (back_of s v) (events_ahead (s.share v))
          (subst (AllByRecursion (λ e. position_told e < length s.fed)) (sound.parts.whole v high)
          (events_below s.fed v width)) in
          no_map (λ f. f.0) (of_back p v)
          (positions_at p (findings [] (back_of s v) []) ∙ ap (filter (λ n. n == p)) (positions_are [] (back_of s v) [])
          ∙ none_at (told_positions (back_of s v)) (told_all (λ n. n < length s.fed) (back_of s v) below))

  -- an event that is not back is of a report that waits
  record Waits (e : LaneEvent) : Type 0 where
    low : s.settled ≤ position_told e
    high : position_told e < length s.fed
    own : OfReport s.fed e

  all_wait : (es : List LaneEvent) → AllByRecursion (λ e. s.settled ≤ position_told e) es →
      AllByRecursion (λ e. position_told e < length s.fed) es → AllByRecursion (OfReport s.fed) es →
      AllByRecursion Waits es
  all_wait [] a b c = tt
  all_wait (e ∷ es) a b c = (record { low = a.0; high = b.0; own = c.0 }, all_wait es a.1 b.1 c.1)

  -- findings that come back are for such
  abbrev AwaitedAt : ℕ → Type 0
  AwaitedAt p = (s.settled ≤ p) × (p < length s.fed) × ReportAt s.fed p

  pub awaited : (worker number : ℕ) (fs : List (ℕ × StretchTold)) → CanBack width s worker number fs →
      AllByRecursion (IsAwaited s) fs
  awaited worker number fs can =
      let sh = s.share worker in
      let low =
      left_part (λ e. s.settled ≤ position_told e) sh.out sh.waiting
      (all_ahead width limits s sound worker can.within) in
      let high =
      left_part (λ e. position_told e < length s.fed) sh.out sh.waiting
      (all_below width limits s sound worker can.within) in
      let own =
      left_part (OfReport s.fed) sh.out sh.waiting
      (right_part (OfReport s.fed) sh.back (events_ahead sh)
      (subst (AllByRecursion (OfReport s.fed)) (sound.parts.whole worker can.within)
      (events_of_reports s.fed worker width))) in
      let all = weakened Waits (λ e. AwaitedAt (position_told e)) (λ e w. (w.low, w.high, w.own)) sh.out
      (all_wait sh.out low high own) in
      weakened (λ f. AwaitedAt f.0) (IsAwaited s) (λ f a. record { low = a.0; high = a.1; report = a.2 }) fs
      (found_all AwaitedAt fs (subst (AllByRecursion AwaitedAt) (sym can.shape) (told_all AwaitedAt sh.out all)))

  -- what is given for a report is of a toll that could be
  pub few_tolls : (t : Sight) → (given s.found t).toll ≤ GREATEST_TOLL
  few_tolls t = looked s.found sound.could
    where
      looked_step : (b : Bool) (f : ℕ × StretchTold) (o : Option StretchTold) → f.1.toll ≤ GREATEST_TOLL →
          (unwrap_or o no_finding).toll ≤ GREATEST_TOLL →
          (unwrap_or (cond b (Some f.1) o) no_finding).toll ≤ GREATEST_TOLL
      looked_step true f o h g = h
      looked_step false f o h g = g

      looked : (found : List (ℕ × StretchTold)) → AllByRecursion CouldBe found →
          (unwrap_or (lookup (λ at. at == t.0) found) no_finding).toll ≤ GREATEST_TOLL
      looked [] h = omega arith
      looked (f ∷ fs) h = looked_step (f.0 == t.0) f (lookup (λ at. at == t.0) fs) h.0.toll (looked fs h.1)

-- where each position has one finding at most, each finding is for a position that has none before it
fresh : (found fs : List (ℕ × StretchTold)) → ((p : ℕ) → length (found_at p (found ++ fs)) ≤ 1) → AreFresh found fs
fresh found [] one = tt
fresh found (f ∷ fs) one =
    let here : found_at f.0 (f ∷ fs) ≡ f ∷ found_at f.0 fs =
    ap (λ b. cond b (f ∷ found_at f.0 fs) (found_at f.0 fs)) (eq-eqb f.0 f.0 refl) in (
      no_length (found_at f.0 found)
          (omega (
            arith,
            one f.0,
            ap length (filter-append (λ g. g.0 == f.0) found (f ∷ fs)),
            length-append
                (found_at f.0 found) (found_at f.0 (f ∷ fs)),
            ap length here,
          )),
      fresh (found ++ f ∷ []) fs
          (λ p. subst (λ gs. length (found_at p gs) ≤ 1) (sym (append_assoc found (f ∷ []) fs)) (one p)),
    )

pub fresh_back : (width : ℕ) (limits : Limits) (s : State) (worker number : ℕ) (fs : List (ℕ × StretchTold)) →
    SoundState width limits s → CanBack width s worker number fs → AreFresh s.found fs
fresh_back width limits s worker number fs sound can =
    fresh s.found fs
    (one_at_most width limits (after_back s worker fs) (sound_back width limits s worker number fs sound can))

-- where nothing was found there is nothing to look up
none_step : (p : ℕ) (b : Bool) (f : ℕ × StretchTold) (fs : List (ℕ × StretchTold)) (o : Option StretchTold) →
    (found_at p fs ≡ [] → o ≡ None) → cond b (f ∷ found_at p fs) (found_at p fs) ≡ [] → cond b (Some f.1) o ≡ None
none_step p true f fs o h e = cc
none_step p false f fs o h e = h e

none_looked : (p : ℕ) (fs : List (ℕ × StretchTold)) → found_at p fs ≡ [] → lookup (λ at. at == p) fs ≡ None
none_looked p [] e = refl
none_looked p (f ∷ fs) e = none_step p (f.0 == p) f fs (lookup (λ at. at == p) fs) (none_looked p fs) e

-- nothing is given where nothing was found
pub not_given : (found : List (ℕ × StretchTold)) (t : Sight) → found_at t.0 found ≡ [] → given found t ≡ no_finding
not_given found t e = ap (λ o. unwrap_or o no_finding) (none_looked t.0 found e)

-- one finding more is looked at last
look_step : (b : Bool) (g : StretchTold) (o o' : Option StretchTold) → o ≡ o' → cond b (Some g) o ≡ cond b (Some g) o'
look_step true g o o' h = refl
look_step false g o o' h = h

last_step : (b : Bool) (g : StretchTold) (o o' : Option StretchTold) → (o ≡ None → o' ≡ o') → cond b (Some g) o ≡ None →
    (b ≡ false) × (o ≡ None)
last_step true g o o' h e = cc
last_step false g o o' h e = (refl, e)

look_last : (p : ℕ) (found : List (ℕ × StretchTold)) (f : ℕ × StretchTold) → lookup (λ at. at == p) found ≡ None →
    lookup (λ at. at == p) (found ++ f ∷ []) ≡ cond (f.0 == p) (Some f.1) None
look_last p [] f e = refl
look_last p (g ∷ found) f e =
    let parts = last_step (g.0 == p) g.1 (lookup (λ at. at == p) found) None (λ _. refl) e in
    ap (λ b. cond b (Some g.1) (lookup (λ at. at == p) (found ++ f ∷ []))) parts.0 ∙ look_last p found f parts.1

look_other : (p : ℕ) (found : List (ℕ × StretchTold)) (f : ℕ × StretchTold) → (f.0 == p) ≡ false →
    lookup (λ at. at == p) (found ++ f ∷ []) ≡ lookup (λ at. at == p) found
look_other p [] f e = ap (λ b. cond b (Some f.1) None) e
look_other p (g ∷ found) f e = look_step (g.0 == p) g.1 _ _ (look_other p found f e)

-- one finding more is given at its position, and nothing else changes
pub given_more : (found : List (ℕ × StretchTold)) (f : ℕ × StretchTold) (t : Sight) → found_at f.0 found ≡ [] →
    given (found ++ f ∷ []) t ≡ cond (f.0 == t.0) f.1 (given found t)
given_more found f t none =
    ⊎_elim
    (λ e.
    let here : lookup (λ at. at == t.0) found ≡ None =
    none_looked t.0 found (subst (λ p. found_at p found ≡ []) (eqb-true f.0 t.0 e) none) in
    ap (λ o. unwrap_or o no_finding) (look_last t.0 found f here ∙ ap (λ b. cond b (Some f.1) None) e)
    ∙ sym (ap (λ b. cond b f.1 (given found t)) e))
    (λ e. ap (λ o. unwrap_or o no_finding) (look_other t.0 found f e) ∙ sym (ap (λ b. cond b f.1 (given found t)) e))
    (cases_Bool (f.0 == t.0))
