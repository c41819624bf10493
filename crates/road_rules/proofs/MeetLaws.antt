-- two that stand at one place, found by who stands first at each
use Rattle.std.proofs.Common.{◌≡◌, ℕ, ◌==◌, ◌&&◌, ◌||◌, not, inl, inr, Bool, true, false, cond, List, [], ◌∷◌, ◌++◌, Option, None, Some, ◌⊎◌, ◌+◌, ◌<◌, length, take, drop, get_or, ⊎_elim, refl, sym, ap, subst, ◌∙◌}
use Rattle.std.specs.List.{list_any}
use Rattle.std.specs.Option.{unwrap_or}
use Rattle.std.proofs.lemmas.List.{take-append-drop, take_more}
use Rattle.std.proofs.lemmas.List.Folds.{list_any-append}
use Rattle.std.proofs.lemmas.Bool.{and_parts, and_from, or_cases, or_left, or_right, eqb-true, false≢true}
use Rattle.road_time.specs.declared.road.Stretch.{Stretch}
use Rattle.road_time.specs.declared.road.Place.{Place}
use Rattle.road_time.specs.Tuples.{stretch_around, same_stretch, same_place}
use Rattle.road_time.specs.Stops.{Stop, has_accident}
use Rattle.road_time.proofs.SameLaws.{place_is, place_same, number_same}
use Rattle.road_time.proofs.StandLaws.{same_stop, is_among, found, given}

abbrev pub is_in : Stretch → Stop → Bool
is_in k s = same_stretch (stretch_around s.1) k

-- who is kept of a place stands there, and all that stand at a place of the stretch are the one that is kept of it
pub record AreFirsts (k : Stretch) (at : Place → Option ℕ) (ss : List Stop) : Type 0 where
  pub stands : (p : Place) (v : ℕ) → at p ≡ Some v → is_among ss (v, p) ≡ true
  pub alone : (s : Stop) → is_among ss s ≡ true → is_in k s ≡ true → at s.1 ≡ Some s.0

stop_made : (v w : ℕ) (p q : Place) → v ≡ w → p ≡ q → ◌≡◌ {A = Stop} (v, p) (w, q)
stop_made v w p q e f = rw (e, f) refl

stop_is : (s t : Stop) → same_stop s t ≡ true → s ≡ t
stop_is s t h =
    let parts = and_parts (s.0 == t.0) (same_place s.1 t.1) h in
    stop_made s.0 t.0 s.1 t.1 (eqb-true s.0 t.0 parts.0) (place_is s.1 t.1 parts.1)

or_none : (b : Bool) → (b || false) ≡ b
or_none true = refl
or_none false = refl

-- what is kept is one
one_kept : (v w : ℕ) → Some v ≡ Some w → v ≡ w
one_kept v w e = ap (λ (o : Option ℕ). unwrap_or o 0) e

-- nobody stands, and nobody is kept
pub firsts_none : (k : Stretch) (at : Place → Option ℕ) → ((p : Place) → at p ≡ None) → AreFirsts k at []
firsts_none k at empty = record {
  stands = λ p v e. absurd (none_kept (sym (empty p) ∙ e));
  alone = λ s h here. absurd (false≢true h);
}
  where
    none_kept : {v : ℕ} → None ≡ Some v → ⊥
    none_kept e = false≢true (ap (λ (o : Option ℕ). elim o [ None ↦ false | Some x ↦ true ]) e)

-- a stop is among more
among_front : (ss : List Stop) (t s : Stop) → is_among ss s ≡ true → is_among (ss ++ t ∷ []) s ≡ true
among_front ss t s h = list_any-append (λ x. same_stop x s) ss (t ∷ []) ∙ or_left (is_among ss s) (is_among (t ∷ []) s) h

-- and the last is one of them
among_last : (ss : List Stop) (s : Stop) → is_among (ss ++ s ∷ []) s ≡ true
among_last ss s =
    list_any-append (λ x. same_stop x s) ss (s ∷ [])
    ∙ or_right (is_among ss s) (is_among (s ∷ []) s) (or_left (same_stop s s) false (and_from (s.0 == s.0) (same_place s.1 s.1) (number_same s.0) (place_same s.1)))

-- one of more is among those before, or the last
among_more : (ss : List Stop) (t s : Stop) → is_among (ss ++ t ∷ []) s ≡ true → (is_among ss s ≡ true) ⊎ (t ≡ s)
among_more ss t s h =
    ⊎_elim inl (λ e. inr (stop_is t s (sym (or_none (same_stop t s)) ∙ e)))
    (or_cases (is_among ss s) (is_among (t ∷ []) s) (sym (list_any-append (λ x. same_stop x s) ss (t ∷ [])) ∙ h))

-- a stop among the first is among all
pub among_all : (ss : List Stop) (i : ℕ) (s : Stop) → is_among (take i ss) s ≡ true → is_among ss s ≡ true
among_all ss i s h =
    ap (λ (xs : List Stop). is_among xs s) (sym (take-append-drop i ss)) ∙ list_any-append (λ x. same_stop x s) (take i ss) (drop i ss)
    ∙ or_left (is_among (take i ss) s) (is_among (drop i ss) s) h

-- and so is the one at a place of the list
pub among_at : (ss : List Stop) (i : ℕ) (d : Stop) → i < length ss → is_among ss (get_or ss i d) ≡ true
among_at ss i d inside =
    among_all ss (i + 1) (get_or ss i d)
    (ap (λ (xs : List Stop). is_among xs (get_or ss i d)) (take_more ss i d inside) ∙ among_last (take i ss) (get_or ss i d))

module _ (k : Stretch) (at : Place → Option ℕ) (ss : List Stop) (held : AreFirsts k at ss) (t : Stop) where
  -- one that is in another stretch
  pub firsts_elsewhere : is_in k t ≡ false → AreFirsts k at (ss ++ t ∷ [])
  firsts_elsewhere out = record {
    stands = λ p v e. among_front ss t (v, p) (held.stands p v e);
    alone = λ s h here. ⊎_elim (λ old. held.alone s old here)
        (λ same. absurd (false≢true (sym out ∙ (ap (is_in k) same ∙ here)))) (among_more ss t s h);
  }

  -- one that is kept of its place, if it was not
  pub firsts_more : (after : Place → Option ℕ) → ((v : ℕ) → at t.1 ≡ Some v → v ≡ t.0)
      → ((p : Place) → after p ≡ cond (same_place t.1 p) (Some t.0) (at p)) → AreFirsts k after (ss ++ t ∷ [])
  firsts_more after fits now = record {
    stands = λ p v e. stands_then p v (same_place t.1 p) refl (sym (now p) ∙ e);
    alone = λ s h here. ⊎_elim (λ old. alone_then s (same_place t.1 s.1) refl (held.alone s old here))
        (λ same. now s.1 ∙ last_is s same) (among_more ss t s h);
  }
    where
      stands_then : (p : Place) (v : ℕ) (b : Bool) → same_place t.1 p ≡ b → cond b (Some t.0) (at p) ≡ Some v → is_among (ss ++ t ∷ []) (v, p) ≡ true
      stands_then p v true here e =
          subst (λ (s : Stop). is_among (ss ++ t ∷ []) s ≡ true) (stop_made t.0 v t.1 p (one_kept t.0 v e) (place_is t.1 p here)) (among_last ss t)
      stands_then p v false here e = among_front ss t (v, p) (held.stands p v e)

      alone_then : (s : Stop) (b : Bool) → same_place t.1 s.1 ≡ b → at s.1 ≡ Some s.0 → after s.1 ≡ Some s.0
      alone_then s true here e =
          now s.1 ∙ ap (λ c. cond c (Some t.0) (at s.1)) here
          ∙ ap Some (sym (fits s.0 (ap at (place_is t.1 s.1 here) ∙ e)))
      alone_then s false here e = now s.1 ∙ ap (λ c. cond c (Some t.0) (at s.1)) here ∙ e

      last_is : (s : Stop) → t ≡ s → cond (same_place t.1 s.1) (Some t.0) (at s.1) ≡ Some s.0
      last_is s same = subst (λ (x : Stop). cond (same_place t.1 x.1) (Some t.0) (at x.1) ≡ Some x.0) same
          (ap (λ c. cond c (Some t.0) (at t.1)) (place_same t.1))

-- another than the one that is kept of its place: an accident
pub firsts_meet : (k : Stretch) (at : Place → Option ℕ) (ss all : List Stop) (t : Stop) (v : ℕ) → AreFirsts k at ss →
    ((s : Stop) → is_among ss s ≡ true → is_among all s ≡ true) → is_among all t ≡ true → is_in k t ≡ true →
    at t.1 ≡ Some v → (t.0 == v) ≡ false → has_accident all k ≡ true
firsts_meet k at ss all t v held more among here kept other =
    given (λ a. is_in k a && list_any (λ b. same_place a.1 b.1 && not (a.0 == b.0)) all) all t
    (and_from (is_in k t) (list_any (λ b. same_place t.1 b.1 && not (t.0 == b.0)) all) here
    (given (λ b. same_place t.1 b.1 && not (t.0 == b.0)) all (v, t.1)
    (and_from (same_place t.1 t.1) (not (t.0 == v)) (place_same t.1) (ap not other)) (more (v, t.1) (held.stands t.1 v kept))))
    among

-- all are the one that is kept of their place: no accident
pub firsts_alone : (k : Stretch) (at : Place → Option ℕ) (ss : List Stop) → AreFirsts k at ss → has_accident ss k ≡ false
firsts_alone k at ss held = by (has_accident ss k) refl
  where
    by : (b : Bool) → has_accident ss k ≡ b → b ≡ false
    by false e = refl
    by true e =
        let a = found (λ x. is_in k x && list_any (λ b. same_place x.1 b.1 && not (x.0 == b.0)) ss) ss e in
        let one = and_parts (is_in k a.0) (list_any (λ b. same_place a.0.1 b.1 && not (a.0.0 == b.0)) ss) a.1 in
        let b = found (λ x. same_place a.0.1 x.1 && not (a.0.0 == x.0)) ss one.1 in
        let two = and_parts (same_place a.0.1 b.0.1) (not (a.0.0 == b.0.0)) b.1 in
        let place : a.0.1 ≡ b.0.1 = place_is a.0.1 b.0.1 two.0 in
        let there : is_in k b.0 ≡ true = ap (λ (p : Place). same_stretch (stretch_around p) k) (sym place) ∙ one.0 in
        let same : a.0.0 ≡ b.0.0 = one_kept a.0.0 b.0.0 (sym (held.alone a.0 a.2 one.0) ∙ (ap at place ∙ held.alone b.0 b.2 there)) in
        absurd (false≢true (ap not (sym (ap (λ (v : ℕ). a.0.0 == v) (sym same) ∙ number_same a.0.0)) ∙ two.1))
