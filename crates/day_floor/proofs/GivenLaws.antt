-- Findings that are given for further positions.
use Rattle.std.proofs.Common.{◌≡◌, ℕ, zero, suc, ◌+◌, ◌<◌, ◌≤◌, ◌==◌, Bool, true, false, cond, List, [], ◌∷◌, ◌++◌}
use Rattle.std.proofs.Common.{length, Option, Some, None, refl, sym, ap, subst, ◌∙◌, arith, slice_get, slice_set}
use Rattle.std.proofs.Common.{length-append, ⊎_elim}
use Rattle.std.specs.Map.{lookup}
use Rattle.std.specs.Option.{unwrap_or}
use Rattle.std.specs.List.{filter_map, cons_option, AllByRecursion}
use Rattle.std.proofs.lemmas.Bool.{ne_eqb, eq-eqb, cases_eq}
use Rattle.road_time.specs.declared.tariff.TheConstants.{GREATEST_TOLL}
use Rattle.road_time.specs.declared.road.Tuple.{Tuple}
use Rattle.road_time.specs.declared.road.Tuple.TheVariants.{Report as ReportTuple, Balance as BalanceTuple}
use Rattle.road_time.specs.declared.road.Tuple.TheVariants.{Spent as SpentTuple, Travel}
use Rattle.road_time.specs.declared.road.Report as road
use Rattle.road_time.specs.Sights.{moments, moments_after, Sight, sights_of, previous}
use Rattle.road_time.specs.Stays.{is_told}
use Rattle.road_time.specs.Tolls.{StretchTold}
use Rattle.road_time.specs.Day.{told_if, told_sight, given, no_finding, HasFewTolls}
use Rattle.road_time.proofs.EachLaws.{weakened}
use Rattle.day_floor.specs.declared.due_slot.Slot.{Slot}
use Rattle.day_floor.specs.Slots.{due_of, found_of, slot_of, slots_of}

-- what is looked up is there before it is added, or it is what is added
lookup_none : (t : ℕ → Bool) (more : List (ℕ × StretchTold)) → AllByRecursion (λ q. t q.0 ≡ false) more →
    lookup t more ≡ None
lookup_none t [] h = refl
lookup_none t (q ∷ qs) h = ap (λ b. cond b (Some q.1) (lookup t qs)) h.0 ∙ lookup_none t qs h.1

lookup_first : (t : ℕ → Bool) (found more : List (ℕ × StretchTold)) → AllByRecursion (λ q. t q.0 ≡ false) more →
    lookup t (found ++ more) ≡ lookup t found
lookup_first t [] more h = lookup_none t more h
lookup_first t (f ∷ fs) more h = ap (cond (t f.0) (Some f.1)) (lookup_first t fs more h)

lookup_new : (t : ℕ → Bool) (found : List (ℕ × StretchTold)) (p : ℕ) (f : StretchTold) → t p ≡ true →
    lookup t found ≡ None → lookup t (found ++ (p, f) ∷ []) ≡ Some f
lookup_new t [] p f e h = ap (λ b. cond b (Some f) None) e
lookup_new t (q ∷ qs) p f e h = by_first (t q.0) refl (lookup_new t qs p f e)
  where
    by_first : (b : Bool) → t q.0 ≡ b → (lookup t qs ≡ None → lookup t (qs ++ (p, f) ∷ []) ≡ Some f) →
        cond (t q.0) (Some q.1) (lookup t (qs ++ (p, f) ∷ [])) ≡ Some f
    by_first true is rest = let bad : Some q.1 ≡ None = sym (ap (λ b. cond b (Some q.1) (lookup t qs)) is) ∙ h in
        let no : ⊥ = cc in absurd no
    by_first false is rest = ap (λ b. cond b (Some q.1) (lookup t (qs ++ (p, f) ∷ []))) is
        ∙ rest (sym (ap (λ b. cond b (Some q.1) (lookup t qs)) is) ∙ h)

-- findings for later positions leave those of earlier ones
given_first : (n : ℕ) (found more : List (ℕ × StretchTold)) (s : Sight) → AllByRecursion (λ q. n ≤ q.0) more → s.0 < n →
    given found s ≡ given (found ++ more) s
given_first n found more s later less =
    let none : AllByRecursion (λ q. (q.0 == s.0) ≡ false) more =
    weakened (λ q. n ≤ q.0) (λ q. (q.0 == s.0) ≡ false) (λ q le. ne_eqb q.0 s.0 (λ same. absurd (omega arith))) more
    later in
    ap (λ o. unwrap_or o no_finding) (sym (lookup_first (λ at. at == s.0) found more none))

told_at : (before : List Tuple) (x : Tuple) (s : Sight) → told_sight (before, x) ≡ Some s → s.0 ≡ length before
told_at before (ReportTuple r) s e = told_is (is_told (previous (sights_of before r.vid)) r) e
  where
    told_is : (b : Bool) → told_if b (length before, r) ≡ Some s → s.0 ≡ length before
    told_is true is = let same : (length before, r) ≡ s = cc in sym (ap (λ (t : Sight). t.0) same)
    told_is false is = let no : ⊥ = cc in absurd no
told_at before (BalanceTuple time vid qid) s e = let no : ⊥ = cc in absurd no
told_at before (SpentTuple time vid xway qid day) s e = let no : ⊥ = cc in absurd no
told_at before (Travel time) s e = let no : ⊥ = cc in absurd no

below_more : (n : ℕ) (o : Option Sight) (rest : List Sight) → ((s : Sight) → o ≡ Some s → s.0 < n) →
    AllByRecursion (λ s. s.0 < n) rest → AllByRecursion (λ s. s.0 < n) (cons_option o rest)
below_more n None rest h later = later
below_more n (Some s) rest h later = (h s refl, later)

-- what is told of some tuples stands at their positions
told_below : (n : ℕ) (before xs : List Tuple) → length before + length xs ≤ n →
    AllByRecursion (λ s. s.0 < n) (filter_map told_sight (moments_after before xs))
told_below n before [] h = tt
told_below n before (x ∷ xs) h =
    let size = length-append before (x ∷ []) in
    below_more n (told_sight (before, x)) (filter_map told_sight (moments_after (before ++ x ∷ []) xs))
    (λ s e. let at = told_at before x s e in omega arith) (told_below n (before ++ x ∷ []) xs (omega arith))

-- findings given for later positions are the same where the tuples before are told
pub given_later : (found more : List (ℕ × StretchTold)) (before : List Tuple) →
    AllByRecursion (λ q. length before ≤ q.0) more →
    AllByRecursion (λ s. given found s ≡ given (found ++ more) s) (filter_map told_sight (moments before))
given_later found more before later =
    weakened (λ s. s.0 < length before) (λ s. given found s ≡ given (found ++ more) s)
    (λ s less. given_first (length before) found more s later less) (filter_map told_sight (moments before))
    (told_below (length before) [] before (omega arith))

module _ (found : List (ℕ × StretchTold)) (p : ℕ) (f : StretchTold) where
  -- a finding given for one position leaves the slots of others
  given_other : (s : Sight) → (s.0 ≡ p → ⊥) → given (found ++ (p, f) ∷ []) s ≡ given found s
  given_other s ne =
      ap (λ o. unwrap_or o no_finding)
      (lookup_first (λ at. at == s.0) found ((p, f) ∷ []) (ne_eqb p s.0 (λ e. ne (sym e)), tt))

  slot_other : (before : List Tuple) (x : Tuple) → (length before ≡ p → ⊥) →
      slot_of (given (found ++ (p, f) ∷ [])) (before, x) ≡ slot_of (given found) (before, x)
  slot_other before (ReportTuple r) ne = ap (λ g. record { due = due_of (before, ReportTuple r); found = found_of g })
      (given_other (length before, r) ne)
  slot_other before (BalanceTuple time vid qid) ne = refl
  slot_other before (SpentTuple time vid xway qid day) ne = refl
  slot_other before (Travel time) ne = refl

  slots_above : (before rest : List Tuple) → p < length before →
      slots_of (given (found ++ (p, f) ∷ [])) before rest ≡ slots_of (given found) before rest
  slots_above before [] less = refl
  slots_above before (x ∷ xs) less =
      let size = length-append before (x ∷ []) in
      ap (λ s. s ∷ slots_of (given (found ++ (p, f) ∷ [])) (before ++ x ∷ []) xs)
      (slot_other before x (λ e. absurd (omega arith)))
      ∙ ap (λ ss. slot_of (given found) (before, x) ∷ ss) (slots_above (before ++ x ∷ []) xs (omega arith))

  slot_here : (before : List Tuple) (x : Tuple) (r : road.Report) (s : Slot) → Some x ≡ Some (ReportTuple r) →
      length before ≡ p → lookup (λ q. q == p) found ≡ None → Some (slot_of (given found) (before, x)) ≡ Some s →
      slot_of (given (found ++ (p, f) ∷ [])) (before, x) ≡ record { due = s.due; found = found_of f }
  slot_here before x r s e same none is =
      let report : x ≡ ReportTuple r = cc in
      let was : slot_of (given found) (before, x) ≡ s = cc in
      let new : given (found ++ (p, f) ∷ []) (length before, r) ≡ f =
      ap (λ o. unwrap_or o no_finding)
      (lookup_new (λ at. at == length before) found p f (eq-eqb p (length before) (sym same))
      (subst (λ n. lookup (λ at. at == n) found ≡ None) (sym same) none)) in
      ap (λ y. slot_of (given (found ++ (p, f) ∷ [])) (before, y)) report
      ∙ (ap (λ g. record { due = due_of (before, ReportTuple r); found = found_of g }) new
      ∙ ap (λ d. record { due = d; found = found_of f })
      (ap (λ y. due_of (before, y)) (sym report) ∙ ap (λ (t : Slot). t.due) was))

  -- a finding given for a report that waits is put into its slot
  pub slots_filled : (before rest : List Tuple) (at : ℕ) (r : road.Report) (s : Slot) → p ≡ length before + at →
      lookup (λ q. q == p) found ≡ None → slice_get rest at ≡ Some (ReportTuple r) →
      slice_get (slots_of (given found) before rest) at ≡ Some s →
      slots_of (given (found ++ (p, f) ∷ [])) before rest ≡ slice_set (slots_of (given found) before rest) at
      (record { due = s.due; found = found_of f })
  slots_filled before [] at r s e none here is = let no : ⊥ = cc in absurd no
  slots_filled before (x ∷ xs) zero r s e none here is =
      let size = length-append before (x ∷ []) in
      ap (λ t. t ∷ slots_of (given (found ++ (p, f) ∷ [])) (before ++ x ∷ []) xs)
      (slot_here before x r s here (omega arith) none is)
      ∙ ap (λ ss. record { due = s.due; found = found_of f } ∷ ss) (slots_above (before ++ x ∷ []) xs (omega arith))
  slots_filled before (x ∷ xs) (suc at) r s e none here is =
      let size = length-append before (x ∷ []) in
      ap (λ t. t ∷ slots_of (given (found ++ (p, f) ∷ [])) (before ++ x ∷ []) xs)
      (slot_other before x (λ same. absurd (omega arith)))
      ∙ ap (λ ss. slot_of (given found) (before, x) ∷ ss)
      (slots_filled (before ++ x ∷ []) xs at r s (omega arith) none here is)

-- nothing is given for a position above all that findings were given for
pub given_none : (found : List (ℕ × StretchTold)) (s : Sight) → AllByRecursion (λ q. q.0 < s.0) found →
    given found s ≡ no_finding
given_none found s ahead =
    ap (λ o. unwrap_or o no_finding)
    (lookup_none (λ at. at == s.0) found
    (weakened (λ q. q.0 < s.0) (λ q. (q.0 == s.0) ≡ false) (λ q less. ne_eqb q.0 s.0 (λ same. absurd (omega arith)))
    found ahead))

-- one finding more leaves few tolls, if its own is one
pub given_few : (found : List (ℕ × StretchTold)) (p : ℕ) (f : StretchTold) → lookup (λ q. q == p) found ≡ None →
    HasFewTolls (given found) → f.toll ≤ GREATEST_TOLL → HasFewTolls (given (found ++ (p, f) ∷ []))
given_few found p f none few toll s =
    ⊎_elim
    (λ (e : s.0 ≡ p). subst (λ (g : StretchTold). g.toll ≤ GREATEST_TOLL)
    (sym (ap (λ o. unwrap_or o no_finding)
    (lookup_new (λ at. at == s.0) found p f (eq-eqb p s.0 (sym e))
    (subst (λ n. lookup (λ at. at == n) found ≡ None) (sym e) none)))) toll)
    (λ (e : s.0 ≡ p → ⊥). subst (λ (g : StretchTold). g.toll ≤ GREATEST_TOLL) (sym (given_other found p f s e)) (few s))
    (cases_eq s.0 p)
