-- who stands at the end of a second, by when each vehicle stands where
use Rattle.std.proofs.Common.{◌≡◌, ℕ, ◌≤◌, ◌==◌, ◌&&◌, ◌||◌, nat_le, nat_lt, Bool, true, false, cond, List, [], ◌∷◌}
use Rattle.std.proofs.Common.{◌++◌, reverse, refl, sym, ap, ◌∙◌, arith, Option, Some}
use Rattle.std.specs.List.{filter, list_any, AllByRecursion}
use Rattle.std.proofs.lemmas.List.{reverse-append, append-nil}
use Rattle.std.proofs.lemmas.List.Elements.{filter-append}
use Rattle.std.proofs.lemmas.List.Folds.{list_any-append}
use Rattle.std.proofs.lemmas.Bool.{or_from, eqb-true, leb-true, le-leb, cond-true, cond-false}
use Rattle.std.proofs.lemmas.Bool.Decides.{nat_tests}
use Rattle.road_time.specs.declared.road.Tuple.{Tuple}
use Rattle.road_time.specs.declared.road.Tuple.TheVariants.{Report as ReportTuple, Balance, Spent, Travel}
use Rattle.road_time.specs.declared.road.Report.{Report}
use Rattle.road_time.specs.declared.road.Place.{Place}
use Rattle.road_time.specs.Order.{NoneBefore, AreTimesInOrder}
use Rattle.road_time.specs.Tuples.{reports, place_of, same_place}
use Rattle.road_time.specs.Stops.{Stop, near, stands, up_to}
use Rattle.road_time.specs.declared.road.Stretch.{Stretch}
use Rattle.road_time.specs.Tolls.{stops_at, near_at}
use Rattle.road_time.proofs.SameLaws.{place_is}
use Rattle.road_time.proofs.TrailLaws.{stands_elsewhere}
use Rattle.road_time.proofs.StandLaws.{near_in, same_stop, is_among, stops_among, any_filter, any_map}
use Rattle.road_time.proofs.EachLaws.{turned, joined, weakened}
use Rattle.road_rules.specs.declared.halts.Mark.{Mark}
use Rattle.road_rules.specs.declared.halts.Halt.{Halt}
use Rattle.road_rules.specs.Halts.{of_vehicle, mark_of, marks_of, next_time, halt_if, halts_after, halts_of, is_before}
use Rattle.road_rules.specs.Halts.{covers, halting, Fall}

-- reversed lists

pub filter_turned : {X : Type 0} (p : X → Bool) (xs : List X) → filter p (reverse xs) ≡ reverse (filter p xs)
filter_turned p [] = refl
filter_turned p (x ∷ xs) =
    ap (filter p) (reverse-append (x ∷ []) xs) ∙ filter-append p (reverse xs) (x ∷ [])
    ∙ ap (λ ys. ys ++ filter p (x ∷ [])) (filter_turned p xs) ∙ step (p x)
  where
    step : (b : Bool) → reverse (filter p xs) ++ cond b (x ∷ []) [] ≡ reverse (cond b (x ∷ filter p xs) (filter p xs))
    step true = sym (reverse-append (x ∷ []) (filter p xs))
    step false = append-nil (reverse (filter p xs))

fall_more : (ys : List Report) (x : Report) → Fall ys → AllByRecursion (λ y. x.time ≤ y.time) ys → Fall (ys ++ x ∷ [])
fall_more [] x h g = (tt, tt)
fall_more (y ∷ ys) x h g = (joined (λ z. z.time ≤ y.time) ys (x ∷ []) h.0 (g.0, tt), fall_more ys x h.1 g.1)

none_before : (t : ℕ) (xs : List Tuple) → NoneBefore t xs → AllByRecursion (λ r. t ≤ r.time) (reports xs)
none_before t [] h = tt
none_before t (ReportTuple r ∷ xs) h = (h.0, none_before t xs h.1)
none_before t (Balance time vid qid ∷ xs) h = none_before t xs h.1
none_before t (Spent time vid xway qid day ∷ xs) h = none_before t xs h.1
none_before t (Travel time ∷ xs) h = none_before t xs h.1

-- the newest first, Times do not rise
pub fall_turned : (day : List Tuple) → AreTimesInOrder day → Fall (reverse (reports day))
fall_turned [] h = tt
fall_turned (ReportTuple r ∷ xs) h =
    let e : reverse (r ∷ reports xs) ≡ reverse (reports xs) ++ r ∷ [] = reverse-append (r ∷ []) (reports xs) in
    rw e (fall_more (reverse (reports xs)) r (fall_turned xs h.1)
    (turned (λ y. r.time ≤ y.time) (reports xs) (none_before r.time xs h.0)))
fall_turned (Balance time vid qid ∷ xs) h = fall_turned xs h.1
fall_turned (Spent time vid xway qid day ∷ xs) h = fall_turned xs h.1
fall_turned (Travel time ∷ xs) h = fall_turned xs h.1

-- a vehicle stands at a place at the end of a second
abbrev pub halts_at : List Halt → ℕ → ℕ → Place → Bool
halts_at hs t v p = list_any (λ h. covers t h && (h.vid == v && same_place h.place p)) hs

pub halting_among : (hs : List Halt) (t : ℕ) (s : Stop) → is_among (halting hs t) s ≡ halts_at hs t s.0 s.1
halting_among hs t s = any_map (λ x. same_stop x s) (λ h. (h.vid, h.place)) (filter (covers t) hs)
    ∙ any_filter (λ h. h.vid == s.0 && same_place h.place s.1) (covers t) hs

module _ (t v : ℕ) (p : Place) where
  abbrev here : ℕ → Report → Option ℕ → Bool
  here u r to = (nat_le r.time u && is_before u to) && (r.vid == v && same_place (place_of r) p)

  one : (b : Bool) (r : Report) (to : Option ℕ) → halts_at (halt_if b r to) t v p ≡ (b && here t r to)
  one true r to = only (here t r to)
    where
      only : (b : Bool) → (b || false) ≡ b
      only b = grind arith
  one false r to = refl

  split : (later : List Mark) (r : Report) (older : List Report) →
      halts_at (halts_after later (marks_of (r ∷ older))) t v p
      ≡ (((mark_of r older).stands && here t r (next_time later r.vid)) || halts_at
      (halts_after (mark_of r older ∷ later) (marks_of older)) t v p)
  split later r older =
      list_any-append (λ h. covers t h && (h.vid == v && same_place h.place p))
      (halt_if (mark_of r older).stands r (next_time later r.vid))
      (halts_after (mark_of r older ∷ later) (marks_of older))
      ∙ ap (λ b. b || halts_at (halts_after (mark_of r older ∷ later) (marks_of older)) t v p)
      (one (mark_of r older).stands r (next_time later r.vid))

  other_here : (b : Bool) (r : Report) (to : Option ℕ) → (r.vid == v) ≡ false → (b && here t r to) ≡ false
  other_here b r to e = rw e (off b (nat_le r.time t && is_before t to))
    where
      off : (a c : Bool) → (a && (c && false)) ≡ false
      off a c = grind arith

  past_here : (b : Bool) (r : Report) (to : Option ℕ) → is_before t to ≡ false → (b && here t r to) ≡ false
  past_here b r to e = rw e (off b (nat_le r.time t) (r.vid == v && same_place (place_of r) p))
    where
      off : (a c d : Bool) → (a && ((c && false) && d)) ≡ false
      off a c d = grind arith

  early_here : (b : Bool) (r : Report) (to : Option ℕ) → nat_le r.time t ≡ false → (b && here t r to) ≡ false
  early_here b r to e = rw e (off b (is_before t to) (r.vid == v && same_place (place_of r) p))
    where
      off : (a c d : Bool) → (a && ((false && c) && d)) ≡ false
      off a c d = grind arith

  not_before : (n : ℕ) → n ≤ t → nat_lt t n ≡ false
  not_before n h = grind (arith, nat_tests)

  -- no stand of a vehicle that was reported again by then
  never : (later : List Mark) (nf : List Report) → AllByRecursion (λ x. x.time ≤ t) nf →
      is_before t (next_time later v) ≡ false → halts_at (halts_after later (marks_of nf)) t v p ≡ false
  never later [] h e = refl
  never later (r ∷ older) h e =
      split later r older
      ∙ or_from _ _ (first (r.vid == v) refl) (never (mark_of r older ∷ later) older h.1 (next (r.vid == v)))
    where
      first : (b : Bool) → (r.vid == v) ≡ b → ((mark_of r older).stands && here t r (next_time later r.vid)) ≡ false
      first true same =
          past_here (mark_of r older).stands r (next_time later r.vid)
          (ap (λ w. is_before t (next_time later w)) (eqb-true r.vid v same) ∙ e)
      first false other = other_here (mark_of r older).stands r (next_time later r.vid) other

      next : (b : Bool) → is_before t (cond b (Some r.time) (next_time later v)) ≡ false
      next true = not_before r.time h.0
      next false = e

  abbrev past : List Report → List Report
  past nf = filter (λ x. nat_le x.time t) nf

  all_past : (nf : List Report) → AllByRecursion (λ x. x.time ≤ t) nf → past nf ≡ nf
  all_past [] h = refl
  all_past (x ∷ xs) h = cond-true (nat_le x.time t) _ _ (le-leb x.time t h.0) ∙ ap (λ ys. x ∷ ys) (all_past xs h.1)

  stand_at : (r : Report) (own : List Report) →
      (stands (r ∷ own) (place_of r) && same_place (place_of r) p) ≡ stands (r ∷ own) p
  stand_at r own = step (same_place (place_of r) p) refl
    where
      on : (b : Bool) → (b && true) ≡ b
      on b = grind arith

      off : (b : Bool) → (b && false) ≡ false
      off b = grind arith

      step : (b : Bool) → same_place (place_of r) p ≡ b →
          (stands (r ∷ own) (place_of r) && same_place (place_of r) p) ≡ stands (r ∷ own) p
      step true e = ap (λ b. stands (r ∷ own) (place_of r) && b) e ∙ on (stands (r ∷ own) (place_of r))
          ∙ ap (stands (r ∷ own)) (place_is (place_of r) p e)
      step false e = ap (λ b. stands (r ∷ own) (place_of r) && b) e ∙ off (stands (r ∷ own) (place_of r))
          ∙ sym (stands_elsewhere r own p e)

  -- the stands that are kept are those of the reports
  standing : (later : List Mark) (nf : List Report) → Fall nf → is_before t (next_time later v) ≡ true →
      halts_at (halts_after later (marks_of nf)) t v p ≡ stands (of_vehicle v (past nf)) p
  standing later [] h e = refl
  standing later (r ∷ older) h e =
      split later r older ∙ step (r.vid == v) refl (nat_le r.time t) refl (standing (mark_of r older ∷ later) older h.1)
    where
      rest : Bool
      rest = halts_at (halts_after (mark_of r older ∷ later) (marks_of older)) t v p

      nothing : (a b : Bool) → a ≡ false → (a || b) ≡ b
      nothing a b g = rw g refl

      keep : (a b : Bool) → b ≡ false → (a || b) ≡ a
      keep a b g = rw g (only a)
        where
          only : (a : Bool) → (a || false) ≡ a
          only a = grind arith

      drop_other : (b : Bool) → (r.vid == v) ≡ false →
          of_vehicle v (cond b (r ∷ past older) (past older)) ≡ of_vehicle v (past older)
      drop_other true g = cond-false (r.vid == v) _ _ g
      drop_other false g = refl

      here_now : (r.vid == v) ≡ true → nat_le r.time t ≡ true →
          (stands (r ∷ of_vehicle r.vid older) (place_of r) && here t r (next_time later r.vid)) ≡ stands
          (of_vehicle v (r ∷ past older)) p
      here_now same le =
          let is : r.vid ≡ v = eqb-true r.vid v same in
          let first : is_before t (next_time later r.vid) ≡ true = ap (λ w. is_before t (next_time later w)) is ∙ e in
          let all : past older ≡ older =
          all_past older
          (weakened (λ x. x.time ≤ r.time) (λ x. x.time ≤ t) (λ x g. omega (arith, g, leb-true r.time t le)) older
          h.0) in
          rw (le, first, same) (lone (stands (r ∷ of_vehicle r.vid older) (place_of r)) (same_place (place_of r) p))
          ∙ stand_at r (of_vehicle r.vid older)
          ∙ ap (λ w. stands (r ∷ of_vehicle w older) p) is
          ∙ sym (ap (λ rs. stands rs p) (cond-true (r.vid == v) _ _ same ∙ ap (λ xs. r ∷ of_vehicle v xs) all))
        where
          lone : (a b : Bool) → (a && ((true && true) && (true && b))) ≡ (a && b)
          lone a b = refl

      step : (b : Bool) → (r.vid == v) ≡ b → (c : Bool) → nat_le r.time t ≡ c →
          (is_before t (cond (r.vid == v) (Some r.time) (next_time later v)) ≡ true →
          rest ≡ stands (of_vehicle v (past older)) p) →
          (((mark_of r older).stands && here t r (next_time later r.vid)) || rest) ≡ stands
          (of_vehicle v (cond (nat_le r.time t) (r ∷ past older) (past older))) p
      step false other c f ih =
          nothing ((mark_of r older).stands && here t r (next_time later r.vid)) rest
          (other_here (mark_of r older).stands r (next_time later r.vid) other)
          ∙ ih (ap (λ b. is_before t (cond b (Some r.time) (next_time later v))) other ∙ e)
          ∙ sym (ap (λ xs. stands xs p) (drop_other (nat_le r.time t) other))
      step true same false f ih =
          nothing ((mark_of r older).stands && here t r (next_time later r.vid)) rest
          (early_here (mark_of r older).stands r (next_time later r.vid) f)
          ∙ ih (ap (λ b. is_before t (cond b (Some r.time) (next_time later v))) same ∙ later_than r.time f)
          ∙ sym (ap (λ b. stands (of_vehicle v (cond b (r ∷ past older) (past older))) p) f)
        where
          later_than : (n : ℕ) → nat_le n t ≡ false → nat_lt t n ≡ true
          later_than n g = grind (arith, nat_tests)
      step true same true f ih =
          keep ((mark_of r older).stands && here t r (next_time later r.vid)) rest
          (never (mark_of r older ∷ later) older
          (weakened (λ x. x.time ≤ r.time) (λ x. x.time ≤ t) (λ x g. omega (arith, g, leb-true r.time t f)) older
          h.0)
          (ap (λ b. is_before t (cond b (Some r.time) (next_time later v))) same
          ∙ not_before r.time (leb-true r.time t f)))
          ∙ here_now same f ∙ sym (ap (λ b. stands (of_vehicle v (cond b (r ∷ past older) (past older))) p) f)

-- who stands, by the halts, is who is stopped
pub halts_among : (day : List Tuple) → AreTimesInOrder day → (t : ℕ) (s : Stop) →
    is_among (halting (halts_of (reports day)) t) s ≡ is_among (stops_at (reports day) t) s
halts_among day order t s =
    halting_among (halts_of (reports day)) t s
    ∙ standing t s.0 s.1 [] (reverse (reports day)) (fall_turned day order) refl
    ∙ ap (λ rs. stands (of_vehicle s.0 rs) s.1) (filter_turned (λ x. nat_le x.time t) (reports day))
    ∙ sym (stops_among (up_to t (reports day)) s)

-- and so are the accidents
pub near_halts : (day : List Tuple) → AreTimesInOrder day → (m : ℕ) (k : Stretch) →
    near (halting (halts_of (reports day))) m k ≡ near_at (reports day) m k
near_halts day order m k =
    near_in (halting (halts_of (reports day))) (stops_at (reports day)) m k (λ t s e. halts_among day order t s)
