-- the accident log, by who stands at each place when
use Rattle.std.proofs.Common.{◌≡◌, ℕ, zero, suc, ◌+◌, ◌-◌, ◌≤◌, ◌<◌, ◌==◌, ◌&&◌, not, Bool, true, false, cond, List, []}
use Rattle.std.proofs.Common.{◌∷◌, ◌++◌, map, take, get_or, length, refl, sym, ap, ◌∙◌, arith, Option, Some}
use Rattle.std.specs.List.{filter, filter_map, flat_map, fold, list_any, prefix_len, range_with_len, cons_option}
use Rattle.std.proofs.lemmas.List.{append-nil, map_more, map-append}
use Rattle.std.proofs.lemmas.List.Elements.{filter_map-append}
use Rattle.std.proofs.lemmas.List.Concat.{flat_map-append}
use Rattle.std.proofs.lemmas.List.Sums.{fold_push}
use Rattle.std.proofs.lemmas.Bool.{cond-true, cond-false, and_parts, and_from}
use Rattle.road_time.specs.declared.road.Tuple.{Tuple}
use Rattle.road_time.specs.declared.road.Report.{Report}
use Rattle.road_time.specs.declared.road.Place.{Place}
use Rattle.road_time.specs.declared.road.Mishap.{Mishap}
use Rattle.road_time.specs.Order.{AreTimesInOrder, greatest_time}
use Rattle.road_time.specs.Tuples.{reports, place_of, same_place}
use Rattle.road_time.specs.Stops.{Stop}
use Rattle.road_time.specs.Tolls.{stops_at}
use Rattle.road_time.specs.Log.{place_cmp, accident_on, stands_at, stands_first, ends_at, mishap_if, mishap_at}
use Rattle.road_time.specs.Log.{places_of, log_of}
use Rattle.road_time.proofs.StandLaws.{is_among, found, given, any_filter, any_map}
use Rattle.road_time.proofs.AccidentLaws.{both, any_alike}
use Rattle.road_time.proofs.PrefixLaws.{range_more}
use Rattle.std.specs.BTreeSet.{insert_key}
use Rattle.road_rules.specs.declared.halts.Halt.{Halt}
use Rattle.road_rules.specs.declared.mishaps.Group.{Group}
use Rattle.road_rules.specs.Halts.{covers, halting, halts_of, is_at}
use Rattle.road_rules.specs.Groups.{shown_group, has_other, stands_with, has_halts, groups_by, groups_of, mishap_in}
use Rattle.road_rules.proofs.HaltLaws.{halts_among}

-- runs

-- how long a run is, that holds up to some second and no further
pub run_is : (p : ℕ → Bool) (a n k : ℕ) → k ≤ n → ((t : ℕ) → a ≤ t → t < a + k → p t ≡ true) →
    (k < n → p (a + k) ≡ false) → prefix_len p (range_with_len a n) ≡ k
run_is p a zero zero l h g = refl
run_is p a zero (suc k) l h g = absurd (omega arith)
run_is p a (suc n) zero l h g =
    let here : a + 0 ≡ a = omega arith in
    cond-false (p a) (1 + prefix_len p (range_with_len (a + 1) n)) 0 (ap p (sym here) ∙ g (omega arith))
run_is p a (suc n) (suc k) l h g =
    let more : a + 1 + k ≡ a + suc k = omega arith in
    let one : 1 + k ≡ suc k = omega arith in
    cond-true (p a) (1 + prefix_len p (range_with_len (a + 1) n)) 0 (h a (omega arith) (omega arith))
    ∙ ap (λ m. 1 + m)
    (run_is p (a + 1) n k (omega arith) (λ t low high. h t (omega arith) (omega (arith, more)))
    (λ less. ap p more ∙ g (omega arith))) ∙ one

-- the same of two ways to say when it stands
module _ (p q : ℕ → Bool) (same : (t : ℕ) → p t ≡ q t) where
  prefix_same : (ts : List ℕ) → prefix_len p ts ≡ prefix_len q ts
  prefix_same [] = refl
  prefix_same (t ∷ ts) = rw (same t, prefix_same ts) refl

  first_same : (t : ℕ) → stands_first p t ≡ stands_first q t
  first_same zero = same 0
  first_same (suc t) = rw (same (suc t), same t) refl

  if_same : (b : Bool) (last : ℕ) (place : Place) (from : ℕ) →
      mishap_if b p last place from ≡ mishap_if b q last place from
  if_same false last place from = refl
  if_same true last place from = ap (λ n. Some (record { from = from; to = ends_at last from n; place = place }))
      (prefix_same (range_with_len from (last + 1 - from)))

  mishap_same : (last : ℕ) (place : Place) (from : ℕ) →
      mishap_if (stands_first p from) p last place from ≡ mishap_if (stands_first q from) q last place from
  mishap_same last place from = if_same (stands_first p from) last place from
      ∙ ap (λ b. mishap_if b q last place from) (first_same from)

-- who stands at a place

swap : (x y z : Bool) → (x && (y && z)) ≡ (y && (x && z))
swap x y z = grind arith

module _ (hs : List Halt) (t : ℕ) (p : Place) where
  abbrev pair : Halt → Stop
  pair h = (h.vid, h.place)

  any_halting : (r : Stop → Bool) → list_any r (halting hs t) ≡ list_any (λ h. covers t h && r (pair h)) hs
  any_halting r = any_map r pair (filter (covers t) hs) ∙ any_filter (λ h. r (pair h)) (covers t) hs

  other_at : (v : ℕ) → has_other (filter (is_at p) hs) t v ≡ list_any (λ b. same_place b.1 p && not (v == b.0))
      (halting hs t)
  other_at v =
      any_filter (λ b. covers t b && not (v == b.vid)) (is_at p) hs
      ∙ any_alike (λ b. is_at p b && (covers t b && not (v == b.vid)))
      (λ b. covers t b && (same_place b.place p && not (v == b.vid)))
      (λ b. swap (is_at p b) (covers t b) (not (v == b.vid))) hs
      ∙ sym (any_halting (λ b. same_place b.1 p && not (v == b.0)))

  -- an accident at a place is one of the halts there
  pub accident_at : stands_with (filter (is_at p) hs) t ≡ accident_on (halting hs t) p
  accident_at =
      any_filter (λ a. covers t a && has_other (filter (is_at p) hs) t a.vid) (is_at p) hs
      ∙ any_alike (λ a. is_at p a && (covers t a && has_other (filter (is_at p) hs) t a.vid))
      (λ a. covers t a
      && (same_place a.place p && list_any (λ b. same_place b.1 p && not (a.vid == b.0)) (halting hs t)))
      (λ a. swap (is_at p a) (covers t a) (has_other (filter (is_at p) hs) t a.vid)
      ∙ ap (λ b. covers t a && (same_place a.place p && b)) (other_at a.vid)) hs
      ∙ sym (any_halting (λ a. same_place a.1 p && list_any (λ b. same_place b.1 p && not (a.0 == b.0)) (halting hs t)))

accident_from : (ss ts : List Stop) (p : Place) → ((s : Stop) → is_among ss s ≡ true → is_among ts s ≡ true) →
    accident_on ss p ≡ true → accident_on ts p ≡ true
accident_from ss ts p f h =
    let a = found (λ x. same_place x.1 p && list_any (λ b. same_place b.1 p && not (x.0 == b.0)) ss) ss h in
    let one = and_parts (same_place a.0.1 p) (list_any (λ b. same_place b.1 p && not (a.0.0 == b.0)) ss) a.1 in
    let b = found (λ x. same_place x.1 p && not (a.0.0 == x.0)) ss one.1 in
    given (λ x. same_place x.1 p && list_any (λ b. same_place b.1 p && not (x.0 == b.0)) ts) ts a.0
    (and_from (same_place a.0.1 p) (list_any (λ b. same_place b.1 p && not (a.0.0 == b.0)) ts) one.0
    (given (λ x. same_place x.1 p && not (a.0.0 == x.0)) ts b.0 b.1 (f b.0 b.2)))
    (f a.0 a.2)

-- the same stops, the same accident
accident_same : (ss ts : List Stop) (p : Place) → ((s : Stop) → is_among ss s ≡ is_among ts s) →
    accident_on ss p ≡ accident_on ts p
accident_same ss ts p f =
    both (accident_on ss p) (accident_on ts p) (accident_from ss ts p (λ s h. sym (f s) ∙ h))
    (accident_from ts ss p (λ s h. f s ∙ h))

-- an accident stands at a place as the halts there have it
pub stands_is : (day : List Tuple) → AreTimesInOrder day → (p : Place) (t : ℕ) →
    stands_at (reports day) p t ≡ stands_with (filter (is_at p) (halts_of (reports day))) t
stands_is day order p t =
    sym (accident_at (halts_of (reports day)) t p
    ∙ accident_same (halting (halts_of (reports day)) t) (stops_at (reports day) t) p
    (λ s. halts_among day order t s))

-- the log

none_first : (from : ℕ) → stands_first (stands_with []) from ≡ false
none_first zero = refl
none_first (suc t) = refl

module _ (day : List Tuple) (order : AreTimesInOrder day) (last from : ℕ) where
  abbrev hs : List Halt
  hs = halts_of (reports day)

  at_place : (p : Place) (own : List Halt) → own ≡ filter (is_at p) hs →
      mishap_at (reports day) last from p ≡ mishap_in last from (p, own)
  at_place p own e =
      mishap_same (stands_at (reports day) p) (stands_with own)
      (λ t. stands_is day order p t ∙ ap (λ xs. stands_with xs t) (sym e)) last p from

  one_group : (p : Place) (own : List Halt) → own ≡ filter (is_at p) hs →
      (gs : List (Place × List Halt)) (ms : List Mishap) → ms ≡ filter_map (mishap_in last from) gs →
      cons_option (mishap_at (reports day) last from p) ms ≡ filter_map (mishap_in last from)
      (cond (has_halts (p, own)) ((p, own) ∷ gs) gs)
  one_group p [] e gs ms f =
      ap (λ o. cons_option o ms)
      (at_place p [] e ∙ ap (λ b. mishap_if b (stands_with []) last p from) (none_first from)) ∙ f
  one_group p (h ∷ own) e gs ms f =
      ap (λ o. cons_option o ms) (at_place p (h ∷ own) e) ∙ ap (cons_option (mishap_in last from (p, h ∷ own))) f

  -- what begins at a second at some places
  pub begun_is : (ps : List Place) →
      filter_map (mishap_at (reports day) last from) ps ≡ filter_map (mishap_in last from) (groups_of hs ps)
  begun_is [] = refl
  begun_is (p ∷ ps) =
      one_group p (filter (is_at p) hs) refl (groups_of hs ps) (filter_map (mishap_at (reports day) last from) ps)
      (begun_is ps)

-- one second more
pub flat_more : {X : Type 0} (f : ℕ → List X) (n : ℕ) →
    flat_map f (range_with_len 0 (n + 1)) ≡ flat_map f (range_with_len 0 n) ++ f n
flat_more f n =
    let one : n + 1 ≡ suc n = omega arith in
    let zero_first : 0 + n ≡ n = omega arith in
    ap (λ m. flat_map f (range_with_len 0 m)) one
    ∙ ap (flat_map f) (range_more 0 n ∙ ap (λ m. range_with_len 0 n ++ m ∷ []) zero_first)
    ∙ flat_map-append f (range_with_len 0 n) (n ∷ [])
    ∙ ap (λ xs. flat_map f (range_with_len 0 n) ++ xs) (append-nil (f n))

flat_same : {X : Type 0} (f g : ℕ → List X) → ((n : ℕ) → f n ≡ g n) → (ns : List ℕ) → flat_map f ns ≡ flat_map g ns
flat_same f g h [] = refl
flat_same f g h (n ∷ ns) = rw (h n, flat_same f g h ns) refl

-- the log is what begins in the groups
pub log_is : (day : List Tuple) → AreTimesInOrder day → log_of day ≡ flat_map
    (λ from. filter_map (mishap_in (greatest_time day) from)
    (groups_of (halts_of (reports day)) (places_of (reports day)))) (range_with_len 0 (greatest_time day + 1))
log_is day order =
    flat_same (λ from. filter_map (mishap_at (reports day) (greatest_time day) from) (places_of (reports day)))
    (λ from. filter_map (mishap_in (greatest_time day) from)
    (groups_of (halts_of (reports day)) (places_of (reports day))))
    (λ from. begun_is day order (greatest_time day) from (places_of (reports day)))
    (range_with_len 0 (greatest_time day + 1))

-- one place more
pub groups_push : (own : Place → List Halt) (ps : List Place) (p : Place) →
    groups_by own (ps ++ p ∷ []) ≡ groups_by own ps ++ groups_by own (p ∷ [])
groups_push own [] p = refl
groups_push own (q ∷ ps) p = step (has_halts (q, own q)) (groups_push own ps p)
  where
    step : (b : Bool) → groups_by own (ps ++ p ∷ []) ≡ groups_by own ps ++ groups_by own (p ∷ []) →
        cond b ((q, own q) ∷ groups_by own (ps ++ p ∷ [])) (groups_by own (ps ++ p ∷ [])) ≡ cond b
        ((q, own q) ∷ groups_by own ps) (groups_by own ps) ++ groups_by own (p ∷ [])
    step true e = ap (λ gs. (q, own q) ∷ gs) e
    step false e = e

-- one group more
pub mishaps_more : (f : Place × List Halt → Option Mishap) (gs : List Group) (i : ℕ) (d : Group) (o : Option Mishap) →
    i < length gs → o ≡ f (shown_group (get_or gs i d)) →
    filter_map f (map shown_group (take (i + 1) gs)) ≡ filter_map f (map shown_group (take i gs)) ++ cons_option o []
mishaps_more f gs i d o h e =
    ap (filter_map f) (map_more shown_group gs i d h)
    ∙ filter_map-append f (map shown_group (take i gs)) (shown_group (get_or gs i d) ∷ [])
    ∙ ap (λ x. filter_map f (map shown_group (take i gs)) ++ cons_option x []) (sym e)

-- one report more has its place among them
pub places_push : (rs : List Report) (r : Report) →
    places_of (rs ++ r ∷ []) ≡ insert_key place_cmp (places_of rs) (place_of r)
places_push rs r = ap (fold (insert_key place_cmp) []) (map-append place_of rs (r ∷ []))
    ∙ fold_push (insert_key place_cmp) [] (map place_of rs) (place_of r)
