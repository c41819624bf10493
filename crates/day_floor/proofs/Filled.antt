-- slots with what was found for them
use Rattle.std.proofs.Common.{◌≡◌, ℕ, zero, suc, ◌+◌, ◌-◌, ◌≤◌, ◌<◌, cond, List, [], ◌∷◌, ◌++◌, length, map, take, drop}
use Rattle.std.proofs.Common.{get_or, slice_get, slice_set, Some, refl, sym, ap, ◌∙◌, arith}
use Rattle.std.specs.List.{AllByRecursion}
use Rattle.std.proofs.lemmas.List.{append_assoc, append-nil, map-append, length-map, length-drop, length_push}
use Rattle.std.proofs.lemmas.List.{take-append-le, take-append-drop, drop_more, take_more}
use Rattle.std.proofs.lemmas.Bool.{eq-eqb, ne_eqb}
use Rattle.road_time.specs.declared.road.Tuple.{Tuple}
use Rattle.road_time.specs.declared.road.Tuple.TheVariants.{Report as ReportTuple, Balance as BalanceTuple}
use Rattle.road_time.specs.declared.road.Tuple.TheVariants.{Spent as SpentTuple, Travel}
use Rattle.road_time.specs.declared.road.Report.{Report}
use Rattle.road_time.specs.declared.day.Limits.{Limits}
use Rattle.road_time.specs.Sights.{Sight, moments_after}
use Rattle.road_time.specs.Tolls.{StretchTold}
use Rattle.road_time.specs.Day.{given, no_finding}
use Rattle.road_time.proofs.SightLaws.{moments-append, length-moments}
use Rattle.ways_expressway.specs.declared.finding.Finding.{Finding as CodeFinding}
use Rattle.ways_expressway.specs.Findings.{shown, found_at}
use Rattle.day_floor.specs.declared.due_slot.Slot.{Slot}
use Rattle.day_floor.specs.declared.due_slot.Found.{Found as SlotFound}
use Rattle.day_floor.specs.Shares.{State}
use Rattle.day_floor.specs.Sound.{AreFresh, ReportAt, SoundState}
use Rattle.day_floor.specs.Slots.{found_of, due_of, found_for, slot_of, slots_of}
use Rattle.day_floor.proofs.Ones.{given_more, not_given, none_yet}

pub slots_length : (finding : Sight → StretchTold) (before rest : List Tuple) →
    length (slots_of finding before rest) ≡ length rest
slots_length finding before rest = length-map (moments_after before rest) (slot_of finding) ∙ length-moments before rest

-- one tuple more waits
pub slots_push : (finding : Sight → StretchTold) (before rest : List Tuple) (x : Tuple) →
    slots_of finding before (rest ++ x ∷ []) ≡ slots_of finding before rest ++ slot_of finding (before ++ rest, x) ∷ []
slots_push finding before rest x = ap (map (slot_of finding)) (moments-append before rest (x ∷ []))
    ∙ map-append (slot_of finding) (moments_after before rest) ((before ++ rest, x) ∷ [])

-- two slots with the same parts
slot_made : (m : List Tuple × Tuple) {f g : SlotFound} → f ≡ g →
    ◌≡◌ {A = Slot} (record { due = due_of m; found = f }) (record { due = due_of m; found = g })
slot_made m e = rw e refl

-- a slot with the same found for its report
slot_same : (f g : Sight → StretchTold) (before : List Tuple) (x : Tuple) →
    ((r : Report) → f (length before, r) ≡ g (length before, r)) → slot_of f (before, x) ≡ slot_of g (before, x)
slot_same f g before (ReportTuple r) h = slot_made (before, ReportTuple r) (ap found_of (h r))
slot_same f g before (BalanceTuple time vid qid) h = refl
slot_same f g before (SpentTuple time vid xway qid day) h = refl
slot_same f g before (Travel time) h = refl

-- what waits at other positions stays
slots_same : (f g : Sight → StretchTold) (before rest : List Tuple) →
    ((p : ℕ) (r : Report) → length before ≤ p → f (p, r) ≡ g (p, r)) → slots_of f before rest ≡ slots_of g before rest
slots_same f g before [] h = refl
slots_same f g before (x ∷ xs) h =
    ap (λ s. s ∷ slots_of f (before ++ x ∷ []) xs) (slot_same f g before x (λ r. h (length before) r (omega arith)))
    ∙ ap (λ ss. slot_of g (before, x) ∷ ss)
    (slots_same f g (before ++ x ∷ []) xs (λ p r l. h p r (omega (arith, l, length_push before x))))

module _ (found : List (ℕ × StretchTold)) (f : ℕ × StretchTold) (fresh : found_at f.0 found ≡ []) where
  -- with one finding more
  abbrev more : Sight → StretchTold
  more = given (found ++ f ∷ [])

  apart : (p : ℕ) (r : Report) → (f.0 ≡ p → ⊥) → more (p, r) ≡ given found (p, r)
  apart p r ne = given_more found f (p, r) fresh
      ∙ ap (λ b. cond b f.1 (given found (p, r))) (ne_eqb f.0 p (λ e. absurd (ne e)))

  own : (p : ℕ) (r : Report) → f.0 ≡ p → more (p, r) ≡ f.1
  own p r e = given_more found f (p, r) fresh ∙ ap (λ b. cond b f.1 (given found (p, r))) (eq-eqb f.0 p e)

  -- the slot of its report, and those after it
  own_slot : (before : List Tuple) (r : Report) (s : Slot) → f.0 ≡ length before →
      slot_of (given found) (before, ReportTuple r) ≡ s →
      slot_of more (before, ReportTuple r) ≡ record { due = s.due; found = found_of f.1 }
  own_slot before r s e is = slot_made (before, ReportTuple r) (ap found_of (own (length before) r e))
      ∙ ap (λ (x : Slot). record { due = x.due; found = found_of f.1 }) is

  first_is : (x y : Tuple) → Some x ≡ Some y → x ≡ y
  first_is x y e = cc

  first_slot : (x y : Slot) → Some x ≡ Some y → x ≡ y
  first_slot x y e = cc

  -- the slot at its place changes alone
  pub filled_at : (before rest : List Tuple) (i : ℕ) (r : Report) (s : Slot) → f.0 ≡ length before + i →
      slice_get rest i ≡ Some (ReportTuple r) → slice_get (slots_of (given found) before rest) i ≡ Some s →
      slots_of more before rest ≡ slice_set (slots_of (given found) before rest) i
      (record { due = s.due; found = found_of f.1 })
  filled_at before [] i r s e there was = cc
  filled_at before (x ∷ xs) zero r s e there was =
      let here : f.0 ≡ length before = omega (arith, e) in
      let is : x ≡ ReportTuple r = first_is x (ReportTuple r) there in
      ap (λ y. slot_of more (before, y) ∷ slots_of more (before ++ x ∷ []) xs) is
      ∙ ap (λ y. y ∷ slots_of more (before ++ x ∷ []) xs)
      (own_slot before r s here
      (ap (λ y. slot_of (given found) (before, y)) (sym is) ∙ first_slot (slot_of (given found) (before, x)) s was))
      ∙ ap (λ ss. record { due = s.due; found = found_of f.1 } ∷ ss)
      (slots_same more (given found) (before ++ x ∷ []) xs
      (λ p q l. apart p q (λ c. omega (arith, here, c, l, length_push before x))))
  filled_at before (x ∷ xs) (suc i) r s e there was =
      ap (λ y. y ∷ slots_of more (before ++ x ∷ []) xs)
      (slot_same more (given found) before x (λ q. apart (length before) q (λ c. omega (arith, e, c))))
      ∙ ap (λ ss. slot_of (given found) (before, x) ∷ ss)
      (filled_at (before ++ x ∷ []) xs i r s (omega (arith, e, length_push before x)) there was)

-- what is behind the first ones
after_first : {X : Type 0} (xs ys : List X) (n i : ℕ) → n ≡ length xs + i → slice_get (xs ++ ys) n ≡ slice_get ys i
after_first [] ys n i e = ap (slice_get ys) (omega (arith, e))
after_first (x ∷ xs) ys zero i e = absurd (omega (arith, e))
after_first (x ∷ xs) ys (suc n) i e = after_first xs ys n i (omega (arith, e))

-- a finding put beside its tuple
pub filled : (slots : List Slot) (settled : ℕ) (f : CodeFinding) (s : Slot) (found : List (ℕ × StretchTold))
    (before rest : List Tuple) → settled ≤ f.position → slice_get slots (f.position - settled) ≡ Some s →
    slots ≡ slots_of (given found) before rest → length before ≡ settled → found_at f.position found ≡ [] →
    ReportAt (before ++ rest) f.position →
    slice_set slots (f.position - settled) (record { due = s.due; found = found_of (shown f).1 }) ≡ slots_of
    (given (found ++ shown f ∷ [])) before rest
filled slots settled f s found before rest low was are long fresh at =
    let i = f.position - settled in
    let place : f.position ≡ length before + (f.position - settled) = omega (arith, low, long) in
    ap (λ ss. slice_set ss (f.position - settled) (record { due = s.due; found = found_of (shown f).1 })) are
    ∙ sym (filled_at found (shown f) fresh before rest (f.position - settled) at.0 s place
    (sym (after_first before rest f.position (f.position - settled) place) ∙ at.1)
    (ap (λ ss. slice_get ss (f.position - settled)) (sym are) ∙ was))

-- findings that are fresh one after another
pub fresh_at : (found xs : List (ℕ × StretchTold)) (f : ℕ × StretchTold) (ys : List (ℕ × StretchTold)) →
    AreFresh found (xs ++ f ∷ ys) → found_at f.0 (found ++ xs) ≡ []
fresh_at found [] f ys h = ap (found_at f.0) (append-nil found) ∙ h.0
fresh_at found (x ∷ xs) f ys h = ap (found_at f.0) (sym (append_assoc found (x ∷ []) xs))
    ∙ fresh_at (found ++ x ∷ []) xs f ys h.1

-- what holds of all holds of one in their midst
pub midst : {X : Type 0} (P : X → Type 0) (xs : List X) (x : X) (ys : List X) → AllByRecursion P (xs ++ x ∷ ys) → P x
midst P [] x ys h = h.0
midst P (y ∷ xs) x ys h = midst P xs x ys h.1

-- findings of the code around one of them, as the definitions have them
pub around : (fs : List CodeFinding) (i : ℕ) (d : CodeFinding) → i < length fs →
    map shown fs ≡ map shown (take i fs) ++ shown (get_or fs i d) ∷ map shown (drop (i + 1) fs)
around fs i d h =
    ap (map shown) (sym (take-append-drop i fs) ∙ ap (λ ys. take i fs ++ ys) (drop_more fs i d h))
    ∙ map-append shown (take i fs) (get_or fs i d ∷ drop (i + 1) fs)

-- and with one more of the first
pub one_further : (found : List (ℕ × StretchTold)) (fs : List CodeFinding) (i : ℕ) (d : CodeFinding) → i < length fs →
    found ++ map shown (take (i + 1) fs) ≡ (found ++ map shown (take i fs)) ++ shown (get_or fs i d) ∷ []
one_further found fs i d h =
    ap (λ gs. found ++ map shown gs) (take_more fs i d h)
    ∙ ap (λ gs. found ++ gs) (map-append shown (take i fs) (get_or fs i d ∷ []))
    ∙ sym (append_assoc found (map shown (take i fs)) (shown (get_or fs i d) ∷ []))

-- how many wait
pub waiting_count : (s : State) → s.settled ≤ length s.fed →
    s.settled + length (slots_of (given s.found) (take s.settled s.fed) (drop s.settled s.fed)) ≡ length s.fed
waiting_count s h =
    omega (
      arith,
      h,
      slots_length (given s.found) (take s.settled s.fed) (drop s.settled s.fed),
      length-drop s.settled s.fed,
    )

-- what is left when one tuple more is fed
drop_push : {X : Type 0} (n : ℕ) (xs : List X) (x : X) → n ≤ length xs → drop n (xs ++ x ∷ []) ≡ drop n xs ++ x ∷ []
drop_push zero xs x h = refl
drop_push (suc n) [] x h = absurd (omega (arith, h))
drop_push (suc n) (y ∷ ys) x h = drop_push n ys x (omega (arith, h))

-- nothing was found for a tuple that is just fed
new_found : (found : List (ℕ × StretchTold)) (fed : List Tuple) (x : Tuple) → found_at (length fed) found ≡ [] →
    found_for (given found) (fed, x) ≡ found_of no_finding
new_found found fed (ReportTuple r) h = ap found_of (not_given found (length fed, r) h)
new_found found fed (BalanceTuple time vid qid) h = refl
new_found found fed (SpentTuple time vid xway qid day) h = refl
new_found found fed (Travel time) h = refl

-- the slots after a tuple was fed
pub slots_fed : (width : ℕ) (limits : Limits) (s : State) (x : Tuple) (slots : List Slot) (new : Slot) →
    SoundState width limits s → slots ≡ slots_of (given s.found) (take s.settled s.fed) (drop s.settled s.fed) →
    new.due ≡ due_of (s.fed, x) → new.found ≡ found_of no_finding →
    slots ++ new ∷ [] ≡ slots_of (given s.found) (take s.settled (s.fed ++ x ∷ [])) (drop s.settled (s.fed ++ x ∷ []))
slots_fed width limits s x slots new sound are due none =
    let before = take s.settled s.fed in
    let rest = drop s.settled s.fed in
    let whole : before ++ rest ≡ s.fed = take-append-drop s.settled s.fed in
    let is : new ≡ slot_of (given s.found) (before ++ rest, x) =
    slot_parts new (s.fed, x) due
    (none ∙ sym (new_found s.found s.fed x (none_yet width limits s sound (length s.fed) (omega arith))))
    ∙ ap (λ d. slot_of (given s.found) (d, x)) (sym whole) in
    ap (λ ss. ss ++ new ∷ []) are ∙ ap (λ y. slots_of (given s.found) before rest ++ y ∷ []) is
    ∙ sym (slots_push (given s.found) before rest x)
    ∙ ap (λ b. slots_of (given s.found) b (rest ++ x ∷ []))
    (sym (take-append-le s.settled s.fed (x ∷ []) sound.settled))
    ∙ ap (slots_of (given s.found) (take s.settled (s.fed ++ x ∷ [])))
    (sym (drop_push s.settled s.fed x sound.settled))
  where
    slot_parts : (n : Slot) (m : List Tuple × Tuple) → n.due ≡ due_of m → n.found ≡ found_for (given s.found) m →
        n ≡ slot_of (given s.found) m
    slot_parts n m d f = rw (← d, ← f) refl
