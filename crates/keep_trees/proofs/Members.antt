-- What is among the elements of a list.
use Rattle.std.proofs.Common.{◌≡◌, Bool, true, List, [], ◌∷◌, map, filter, refl, ap, subst, ◌∙◌, inl, inr}
use Rattle.std.proofs.Common.{IsPermutation}
use Rattle.std.proofs.lemmas.Bool.{cases_Bool}
use Rattle.sqlite_btree.specs.Cut.{IsIn}
use Rattle.sqlite_keyed.proofs.ListLemmas.{along_permutation}

-- a permutation has the same
pub in_permuted : {X : Type 0} (xs ys : List X) (x : X) → IsPermutation xs ys → IsIn x xs → IsIn x ys
in_permuted {X} xs ys x = along_permutation (λ (a b : List X). IsIn x a → IsIn x b) (λ l h. h)
    (λ y a b go h. elim h [ inl e ↦ inl e | inr more ↦ inr (go more) ])
    (λ y z l h. elim h [ inl e ↦ inr (inl e) | inr more ↦ elim more [ inl e ↦ inl e | inr rest ↦ inr (inr rest) ] ])
    (λ a b c one two h. two (one h)) xs ys

-- what is among images is one
pub in_mapped : {A B : Type 0} (f : A → B) (xs : List A) (y : B) → IsIn y (map f xs) → (x : A) × IsIn x xs × (y ≡ f x)
in_mapped f [] y h = absurd h
in_mapped f (x ∷ xs) y (inl e) = (x, inl refl, e)
in_mapped f (x ∷ xs) y (inr h) = let r = in_mapped f xs y h in (r.0, inr r.1, r.2)

-- and each is among them
pub into_mapped : {A B : Type 0} (f : A → B) (xs : List A) (x : A) → IsIn x xs → IsIn (f x) (map f xs)
into_mapped f [] x h = absurd h
into_mapped f (y ∷ ys) x (inl e) = inl (ap f e)
into_mapped f (y ∷ ys) x (inr h) = inr (into_mapped f ys x h)

-- what passes is among those that pass
pub into_filter : {A : Type 0} (p : A → Bool) (xs : List A) (x : A) → IsIn x xs → p x ≡ true → IsIn x (filter p xs)
into_filter p [] x h is = absurd h
into_filter p (y ∷ ys) x (inl e) is = let here : p y ≡ true = subst (λ z. p z ≡ true) e is in rw here (inl e)
into_filter p (y ∷ ys) x (inr h) is =
    elim (cases_Bool (p y)) [
      | inl kept ↦ rw kept (inr (into_filter p ys x h is))
      | inr off ↦
          rw off (into_filter p ys x h is)
    ]

-- and what is among those passes
pub of_filter : {A : Type 0} (p : A → Bool) (xs : List A) (x : A) → IsIn x (filter p xs) → IsIn x xs × (p x ≡ true)
of_filter p [] x h = absurd h
of_filter p (y ∷ ys) x h =
    elim (cases_Bool (p y)) [
      | inl kept ↦
          elim (rw kept at h) [
            | inl e ↦ (inl e, ap p e ∙ kept)
            | inr more ↦ let r = of_filter p ys x more in (inr r.0, r.1)
          ]
      | inr off ↦ let r = of_filter p ys x (rw off at h) in (inr r.0, r.1)
    ]
