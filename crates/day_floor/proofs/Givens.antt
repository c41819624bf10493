-- findings that come back, beside those of other workers
use Rattle.std.proofs.Common.{◌≡◌, ℕ, zero, suc, ◌+◌, ◌≤◌, ◌<◌, ◌==◌, ◌⊎◌, ⊎_elim, inl, inr, List, [], ◌∷◌, ◌++◌, map}
use Rattle.std.proofs.Common.{refl, sym, ap, ◌∙◌, arith, subst}
use Rattle.std.specs.List.{flat_map, range_with_len}
use Rattle.std.proofs.lemmas.List.{append_assoc, append-nil, map-append}
use Rattle.std.proofs.lemmas.List.Elements.{filter-append}
use Rattle.std.proofs.lemmas.Bool.{cases_eq}
use Rattle.road_time.specs.declared.day.Limits.{Limits}
use Rattle.road_time.specs.Rates.{Tariffs}
use Rattle.road_time.specs.Tolls.{StretchTold}
use Rattle.ways_expressway.specs.declared.lane_event.LaneEvent.{LaneEvent}
use Rattle.ways_expressway.specs.Events.{events_for}
use Rattle.ways_expressway.specs.Findings.{findings, found_at}
use Rattle.ways_expressway.specs.Runs.{MayRun}
use Rattle.ways_expressway.specs.Laws.{AreGiven, HaveTheirPositions}
use Rattle.ways_expressway.proofs.JobLaws.{findings_split, split_run}
use Rattle.ways_expressway.proofs.RunLaws.{may_run}
use Rattle.ways_expressway.proofs.RunSteps.{run_left}
use Rattle.day_floor.specs.Shares.{State, back_of}
use Rattle.day_floor.specs.Steps.{at_worker, taken_back}
use Rattle.day_floor.specs.Sound.{told_positions, SoundState, IsTrue}
use Rattle.day_floor.proofs.Shapes.{positions_are, same_at}
use Rattle.day_floor.proofs.Workers.{at_own, at_other}
use Rattle.day_floor.proofs.Alone.{alone}

-- where joined lists are empty, both are
pub left_empty : {X : Type 0} (xs ys : List X) → xs ++ ys ≡ [] → xs ≡ []
left_empty [] ys h = refl
left_empty (x ∷ xs) ys h = cc

pub right_empty : {X : Type 0} (xs ys : List X) → xs ++ ys ≡ [] → ys ≡ []
right_empty [] ys h = h
right_empty (x ∷ xs) ys h = cc

-- the findings of several at a position are those of each there
pub found_joined : (p : ℕ) (f : ℕ → List (ℕ × StretchTold)) (ws : List ℕ) →
    found_at p (flat_map f ws) ≡ flat_map (λ w. found_at p (f w)) ws
found_joined p f [] = refl
found_joined p f (w ∷ ws) = filter-append (λ g. g.0 == p) (f w) (flat_map f ws)
    ∙ ap (λ xs. found_at p (f w) ++ xs) (found_joined p f ws)

-- the same lists joined
pub flat_same : {X : Type 0} (f g : ℕ → List X) (a k : ℕ) → ((v : ℕ) → a ≤ v → v < a + k → g v ≡ f v) →
    flat_map g (range_with_len a k) ≡ flat_map f (range_with_len a k)
flat_same f g a zero h = refl
flat_same f g a (suc k) h =
    ap (λ xs. xs ++ flat_map g (range_with_len (a + 1) k)) (h a (omega arith) (omega arith))
    ∙ ap (λ xs. f a ++ xs) (flat_same f g (a + 1) k (λ v l u. h v (omega (arith, l)) (omega (arith, u))))

-- empty lists joined
pub flat_empty : {X : Type 0} (f : ℕ → List X) (a k : ℕ) → ((v : ℕ) → a ≤ v → v < a + k → f v ≡ []) →
    flat_map f (range_with_len a k) ≡ []
flat_empty f a zero h = refl
flat_empty f a (suc k) h =
    ap (λ xs. xs ++ flat_map f (range_with_len (a + 1) k)) (h a (omega arith) (omega arith))
    ∙ flat_empty f (a + 1) k (λ v l u. h v (omega (arith, l)) (omega (arith, u)))

-- two lists change places where one is empty
swapped : {X : Type 0} (xs bs ys : List X) → ((bs ≡ [] → ⊥) → ys ≡ []) → (xs ++ bs) ++ ys ≡ (xs ++ ys) ++ bs
swapped xs [] ys h = ap (λ zs. zs ++ ys) (append-nil xs) ∙ sym (append-nil (xs ++ ys))
swapped {X} xs (b ∷ bs) ys h =
    let none : ys ≡ [] = h (some b bs) in
    ap (λ zs. (xs ++ b ∷ bs) ++ zs) none ∙ append-nil (xs ++ b ∷ bs) ∙ ap (λ zs. zs ++ b ∷ bs) (sym (append-nil xs))
    ∙ ap (λ zs. (xs ++ zs) ++ b ∷ bs) (sym none)
  where
    some : (b : X) (bs : List X) → ◌≡◌ {A = List X} (b ∷ bs) [] → ⊥
    some b bs e = cc

-- what one worker has more stands last, where no other has anything
module _ {X : Type 0} (f g : ℕ → List X) (w : ℕ) (bs : List X) (own : g w ≡ f w ++ bs)
    (other : (v : ℕ) → (v ≡ w → ⊥) → g v ≡ f v) (width : ℕ)
    (only : (v : ℕ) → v < width → (v ≡ w → ⊥) → (bs ≡ []) ⊎ (f v ≡ [])) where
  pub flat_more : (a k : ℕ) → a ≤ w → w < a + k → a + k ≤ width →
      flat_map g (range_with_len a k) ≡ flat_map f (range_with_len a k) ++ bs
  flat_more a zero l u m = absurd (omega (arith, l, u))
  flat_more a (suc k) l u m =
      ⊎_elim
      (λ e.
      ap (λ xs. xs ++ flat_map g (range_with_len (a + 1) k)) (ap g e ∙ own ∙ ap (λ v. f v ++ bs) (sym e))
      ∙ ap (λ xs. (f a ++ bs) ++ xs) (flat_same f g (a + 1) k (λ v low high. other v (λ q. omega (arith, low, q, e))))
      ∙ swapped (f a) bs (flat_map f (range_with_len (a + 1) k))
      (λ some. flat_empty f (a + 1) k
      (λ v low high. ⊎_elim (λ none. absurd (some none)) (λ none. none)
      (only v (omega (arith, high, m)) (λ q. omega (arith, low, q, e))))))
      (λ e.
      ap (λ xs. xs ++ flat_map g (range_with_len (a + 1) k)) (other a e)
      ∙ ap (λ xs. f a ++ xs) (flat_more (a + 1) k (below a l e) (omega (arith, u)) (omega (arith, m)))
      ∙ sym (append_assoc (f a) (flat_map f (range_with_len (a + 1) k)) bs))
      (cases_eq a w)
    where
      below : (a : ℕ) → a ≤ w → (a ≡ w → ⊥) → a + 1 ≤ w
      below a l ne = omega (arith, l, ne)

module _ (tariffs : Tariffs) (width : ℕ) (limits : Limits) (s : State) (sound : SoundState width limits s) where
  -- the findings of a worker's events that are back
  abbrev of_back : ℕ → List (ℕ × StretchTold)
  of_back v = findings [] (back_of s v) tariffs

  -- all that a worker finds has them as parts
  in_three : (v : ℕ) → v < width → findings [] (events_for s.fed v width) tariffs
      ≡ findings [] (s.share v).back tariffs
      ++ (findings (s.share v).back (s.share v).out tariffs ++ findings ((s.share v).back ++ (s.share v).out)
      (s.share v).waiting tariffs)
  in_three v k =
      let sh = s.share v in
      let run : MayRun [] (sh.back ++ (sh.out ++ sh.waiting)) =
      subst (MayRun []) (sound.parts.whole v k) (may_run v width s.fed sound.fit.in_order) in
      ap (λ es. findings [] es tariffs) (sound.parts.whole v k)
      ∙ findings_split [] sh.back (sh.out ++ sh.waiting) tariffs run
      ∙ ap (λ fs. findings [] sh.back tariffs ++ fs)
      (findings_split sh.back sh.out sh.waiting tariffs (split_run [] sh.back (sh.out ++ sh.waiting) run))

  -- at a position they are parts of what all find there
  pub at_three : (p v : ℕ) → v < width → found_at p (findings [] (events_for s.fed v width) tariffs)
      ≡ found_at p (findings [] (s.share v).back tariffs)
      ++ (found_at p (findings (s.share v).back (s.share v).out tariffs) ++ found_at p
      (findings ((s.share v).back ++ (s.share v).out) (s.share v).waiting tariffs))
  at_three p v k =
      let sh = s.share v in
      ap (found_at p) (in_three v k)
      ∙ filter-append (λ f. f.0 == p) (findings [] sh.back tariffs)
      (findings sh.back sh.out tariffs ++ findings (sh.back ++ sh.out) sh.waiting tariffs)
      ∙ ap (λ fs. found_at p (findings [] sh.back tariffs) ++ fs)
      (filter-append (λ f. f.0 == p) (findings sh.back sh.out tariffs)
      (findings (sh.back ++ sh.out) sh.waiting tariffs))

  module _ (worker : ℕ) (within : worker < width) where
    -- the findings of the events that are out, after those that are back
    abbrev pub of_out : List (ℕ × StretchTold)
    of_out = findings (s.share worker).back (s.share worker).out tariffs

    -- where the worker's job finds something, no other worker has
    only_one : (p v : ℕ) → v < width → (v ≡ worker → ⊥) → (found_at p of_out ≡ []) ⊎ (found_at p (of_back v) ≡ [])
    only_one p v k ne =
        ⊎_elim
        (λ none. inr (left_empty (found_at p (of_back v)) _ (sym (at_three p v k) ∙ none)))
        (λ none. inl
        (left_empty (found_at p of_out) _
        (right_empty (found_at p (of_back worker)) _ (sym (at_three p worker within) ∙ none))))
        (alone s.fed sound.fit.in_order tariffs width p v worker ne)

    -- what is back of a worker afterwards
    abbrev back_then : ℕ → List LaneEvent
    back_then v = (at_worker worker taken_back s.share v).back

    own_then : findings [] (back_then worker) tariffs ≡ of_back worker ++ of_out
    own_then =
        let sh = s.share worker in
        let run : MayRun [] (sh.back ++ (sh.out ++ sh.waiting)) =
        subst (MayRun []) (sound.parts.whole worker within) (may_run worker width s.fed sound.fit.in_order) in
        ap (λ x. findings [] x.back tariffs) (at_own worker taken_back s.share)
        ∙ findings_split [] sh.back sh.out tariffs
        (run_left [] (sh.back ++ sh.out) sh.waiting
        (subst (MayRun []) (sym (append_assoc sh.back sh.out sh.waiting)) run))

    -- at each position the findings of the job come last
    pub found_then : (p : ℕ) →
        found_at p (flat_map (λ v. findings [] (back_then v) tariffs) (range_with_len 0 width)) ≡ found_at p
        (flat_map of_back (range_with_len 0 width)) ++ found_at p of_out
    found_then p =
        found_joined p (λ v. findings [] (back_then v) tariffs) (range_with_len 0 width)
        ∙ flat_more (λ v. found_at p (of_back v)) (λ v. found_at p (findings [] (back_then v) tariffs)) worker
        (found_at p of_out)
        (ap (found_at p) own_then ∙ filter-append (λ f. f.0 == p) (of_back worker) of_out)
        (λ v ne. ap (λ x. found_at p (findings [] x.back tariffs)) (at_other worker v taken_back s.share ne))
        width (only_one p) 0 width (omega arith) (omega (arith, within)) (omega arith)
        ∙ ap (λ fs. fs ++ found_at p of_out) (sym (found_joined p of_back (range_with_len 0 width)))

    -- so findings of their positions have the positions of what is back
    pub positions_then : (fs : List (ℕ × StretchTold)) → map (λ f. f.0) fs ≡ told_positions (s.share worker).out →
        HaveTheirPositions tariffs width (back_of s) s.found →
        HaveTheirPositions tariffs width back_then (s.found ++ fs)
    positions_then fs shape have p =
        ap (map (λ f. f.0)) (filter-append (λ f. f.0 == p) s.found fs)
        ∙ map-append (λ f. f.0) (found_at p s.found) (found_at p fs)
        ∙ ap (λ ps. ps ++ map (λ f. f.0) (found_at p fs)) (have p)
        ∙ ap (λ ps. map (λ f. f.0) (found_at p (flat_map of_back (range_with_len 0 width))) ++ ps)
        (same_at p fs of_out (shape ∙ sym (positions_are (s.share worker).back (s.share worker).out tariffs)))
        ∙ sym (map-append (λ f. f.0) (found_at p (flat_map of_back (range_with_len 0 width))) (found_at p of_out))
        ∙ ap (map (λ f. f.0)) (sym (found_then p))

    -- and the job's own findings keep them true
    pub true_then : IsTrue tariffs width s → AreGiven tariffs width back_then (s.found ++ of_out)
    true_then have p = filter-append (λ f. f.0 == p) s.found of_out ∙ ap (λ fs. fs ++ found_at p of_out) (have p)
        ∙ sym (found_then p)

-- the same events back
pub given_same : (tariffs : Tariffs) (width : ℕ) (a b : ℕ → List LaneEvent) (found : List (ℕ × StretchTold)) →
    ((v : ℕ) → b v ≡ a v) → AreGiven tariffs width a found → AreGiven tariffs width b found
given_same tariffs width a b found same h p =
    h p ∙ ap (found_at p)
    (sym (flat_same (λ v. findings [] (a v) tariffs) (λ v. findings [] (b v) tariffs) 0 width
    (λ v l u. ap (λ es. findings [] es tariffs) (same v))))

pub positions_same : (tariffs : Tariffs) (width : ℕ) (a b : ℕ → List LaneEvent) (found : List (ℕ × StretchTold)) →
    ((v : ℕ) → b v ≡ a v) → HaveTheirPositions tariffs width a found → HaveTheirPositions tariffs width b found
positions_same tariffs width a b found same h p =
    h p ∙ ap (λ fs. map (λ f. f.0) (found_at p fs))
    (sym (flat_same (λ v. findings [] (a v) tariffs) (λ v. findings [] (b v) tariffs) 0 width
    (λ v l u. ap (λ es. findings [] es tariffs) (same v))))
