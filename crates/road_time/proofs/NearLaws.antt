-- a search of the five segments from the nearest on
use Rattle.std.proofs.Common.{◌≡◌, ℕ, zero, suc, ◌+◌, ◌<◌, ⊎_elim, Bool, true, false, List, [], ◌∷◌, ◌++◌, take, drop}
use Rattle.std.proofs.Common.{get_or, refl, sym, ap, ◌∙◌, arith, Option, Some, None}
use Rattle.std.specs.List.{find, filter_map, cons_option}
use Rattle.std.proofs.lemmas.List.{take_more, take-append-drop, drop_more}
use Rattle.std.proofs.lemmas.List.Elements.{filter_map-append}
use Rattle.std.proofs.lemmas.Bool.{cond-true, cond-false, cases_Bool}

-- how far ahead the segments are
abbrev pub five : List ℕ
five = 0 ∷ 1 ∷ 2 ∷ 3 ∷ 4 ∷ []

-- each is its own number
at_five : (i : ℕ) → i < 5 → get_or five i 0 ≡ i
at_five zero h = refl
at_five (suc zero) h = refl
at_five (suc (suc zero)) h = refl
at_five (suc (suc (suc zero))) h = refl
at_five (suc (suc (suc (suc zero)))) h = refl
at_five (suc (suc (suc (suc (suc n))))) h = absurd (omega arith)

-- a search that found nothing goes on
find_after : (p : ℕ → Bool) (xs ys : List ℕ) → find p xs ≡ None → find p (xs ++ ys) ≡ find p ys
find_after p [] ys h = refl
find_after p (x ∷ xs) ys h =
    ⊎_elim
    (λ e. let clash : Some x ≡ None = sym (cond-true (p x) (Some x) (find p xs) e) ∙ h in absurd cc)
    (λ e. cond-false (p x) _ _ e ∙ find_after p xs ys (sym (cond-false (p x) (Some x) (find p xs) e) ∙ h))
    (cases_Bool (p x))

module _ (ds : ℕ → Option ℕ) (p : ℕ → Bool) (i : ℕ) (within : i < 5)
    (none : find p (filter_map ds (take i five)) ≡ None) where
  -- the segments with one more
  upto : filter_map ds (take (i + 1) five) ≡ filter_map ds (take i five) ++ cons_option (ds i) []
  upto = ap (filter_map ds) (take_more five i 0 within ∙ ap (λ x. take i five ++ x ∷ []) (at_five i within))
      ∙ filter_map-append ds (take i five) (i ∷ [])

  -- the segments so far, this one, and the rest
  whole : filter_map ds five ≡ filter_map ds (take i five) ++ cons_option (ds i) (filter_map ds (drop (i + 1) five))
  whole = ap (filter_map ds)
      (sym (take-append-drop i five)
      ∙ ap (λ zs. take i five ++ zs) (drop_more five i 0 within ∙ ap (λ x. x ∷ drop (i + 1) five) (at_five i within)))
      ∙ filter_map-append ds (take i five) (i ∷ drop (i + 1) five)

  -- no segment there
  pub near_off : None ≡ ds i → find p (filter_map ds (take (i + 1) five)) ≡ None
  near_off e = ap (find p) upto ∙ find_after p (filter_map ds (take i five)) (cons_option (ds i) []) none
      ∙ ap (λ o. find p (cons_option o [])) (sym e)

  -- a segment that does not pass
  pub near_not : (s : ℕ) → Some s ≡ ds i → p s ≡ false → find p (filter_map ds (take (i + 1) five)) ≡ None
  near_not s e f = ap (find p) upto ∙ find_after p (filter_map ds (take i five)) (cons_option (ds i) []) none
      ∙ ap (λ o. find p (cons_option o [])) (sym e) ∙ cond-false (p s) (Some s) None f

  -- the first that passes
  pub near_here : (s : ℕ) → Some s ≡ ds i → p s ≡ true → find p (filter_map ds five) ≡ Some s
  near_here s e f = ap (find p) whole
      ∙ find_after p (filter_map ds (take i five)) (cons_option (ds i) (filter_map ds (drop (i + 1) five))) none
      ∙ ap (λ o. find p (cons_option o (filter_map ds (drop (i + 1) five)))) (sym e) ∙ cond-true (p s) _ _ f
