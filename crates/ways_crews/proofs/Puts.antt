-- What is read of a list after something was written in it.
use Rattle.std.proofs.Common.{◌≡◌, ◌≢◌, ℕ, zero, suc, ◌+◌, List, [], ◌∷◌, refl, sym, ◌∙◌, ap, subst, arith}
use Rattle.std.specs.Prelude.{Option, Some, None, slice_get, slice_set, Contains, IsPermutation}
use Rattle.std.proofs.lemmas.Option.{none-some, same_Some}
use Rattle.std.proofs.lemmas.List.Sorted.{IsPermutation-refl, IsPermutation-cons, IsPermutation-middle}
use Rattle.std.proofs.lemmas.List.Sorted.{IsPermutation-trans}
use Rattle.ways_crews.specs.Places.{out_from, out_of, IsPut, IsTaken}
use Rattle.ways_crews.specs.Numbers.{IsOneMore}
use Rattle.ways_crews.proofs.Numbers.{out_is}

-- what is read where something was written
pub get_same : {X : Type 0} (xs : List X) (i : ℕ) (x v : X) → slice_get xs i ≡ Some x →
    slice_get (slice_set xs i v) i ≡ Some v
get_same [] i x v h = absurd (none-some _ h)
get_same (y ∷ xs) zero x v h = refl
get_same (y ∷ xs) (suc i) x v h = get_same xs i x v h

-- and elsewhere
pub get_other : {X : Type 0} (xs : List X) (i j : ℕ) (v : X) → j ≢ i → slice_get (slice_set xs i v) j ≡ slice_get xs j
get_other [] i j v apart = refl
get_other (y ∷ xs) zero zero v apart = absurd (apart refl)
get_other (y ∷ xs) zero (suc j) v apart = refl
get_other (y ∷ xs) (suc i) zero v apart = refl
get_other (y ∷ xs) (suc i) (suc j) v apart = get_other xs i j v (λ e. apart (ap (λ n. suc n) e))

-- what was there, written again
pub set_back : {X : Type 0} (xs : List X) (i : ℕ) (x v : X) → slice_get xs i ≡ Some x →
    slice_set (slice_set xs i v) i x ≡ xs
set_back [] i x v h = refl
set_back (y ∷ xs) zero x v h = ap (λ z. z ∷ xs) (sym (same_Some _ _ h))
set_back (y ∷ xs) (suc i) x v h = ap (λ zs. y ∷ zs) (set_back xs i x v h)

-- an entry in a free place gives one number more
pub one_more : {X : Type 0} → (n i : ℕ) (entry : X) (places : List (Option X)) → slice_get places i ≡ Some None →
    IsPermutation (out_from n (slice_set places i (Some entry))) ((n + i) ∷ out_from n places)
one_more n i entry [] h = absurd (none-some _ h)
one_more n zero entry (None ∷ places) h = let same : n ≡ n + 0 = omega arith in
    subst (λ m. IsPermutation (n ∷ out_from (n + 1) places) (m ∷ out_from (n + 1) places)) same (IsPermutation-refl _)
one_more n zero entry (Some e ∷ places) h = absurd (none-some e (sym (same_Some _ _ h)))
one_more n (suc i) entry (None ∷ places) h =
    let same : (n + 1) + i ≡ n + suc i = omega arith in
    subst (λ m. IsPermutation (out_from (n + 1) (slice_set places i (Some entry))) (m ∷ out_from (n + 1) places)) same
    (one_more (n + 1) i entry places h)
one_more n (suc i) entry (Some e ∷ places) h =
    let same : (n + 1) + i ≡ n + suc i = omega arith in
    let inner =
    subst (λ m. IsPermutation (out_from (n + 1) (slice_set places i (Some entry))) (m ∷ out_from (n + 1) places))
    same (one_more (n + 1) i entry places h) in
    IsPermutation-trans _ _ _ (IsPermutation-cons n _ _ inner)
    (IsPermutation-middle (n ∷ []) (n + suc i) (out_from (n + 1) places))

-- the number of a free place is not out
pub not_out : {X : Type 0} → (n : ℕ) (places : List (Option X)) → slice_get places n ≡ Some None →
    Contains (out_of places) n → ⊥
not_out n places free out =
    let (i, e, at, is) = out_is 0 n places out in
    let same : i ≡ n = omega arith in
    none-some e (same_Some _ _ (sym free ∙ subst (λ m. slice_get places m ≡ Some (Some e)) same is))

-- an entry was put: its number came to those that are out
pub put_more : {X : Type 0} → (n : ℕ) (entry : X) (was now : List (Option X)) → IsPut n entry was now →
    IsOneMore n (out_of was) (out_of now)
put_more n entry was now put = record {
  small = put.small;
  free = not_out n was put.free;
  all =
      let same : 0 + n ≡ n = omega arith in
      subst (λ xs. IsPermutation (out_of xs) (n ∷ out_of was)) (sym put.is)
      (subst (λ m. IsPermutation (out_of (slice_set was n (Some entry))) (m ∷ out_of was)) same
      (one_more 0 n entry was put.free));
}

-- an entry was taken: its number left them
pub take_less : {X : Type 0} → (n : ℕ) (entry : X) (was now : List (Option X)) → IsTaken n entry was now →
    IsOneMore n (out_of now) (out_of was)
take_less n entry was now taken =
    let free : slice_get now n ≡ Some None =
    subst (λ xs. slice_get xs n ≡ Some None) (sym taken.is) (get_same was n (Some entry) None taken.there) in
    let back : slice_set now n (Some entry) ≡ was =
    subst (λ xs. slice_set xs n (Some entry) ≡ was) (sym taken.is) (set_back was n (Some entry) None taken.there) in
    let same : 0 + n ≡ n = omega arith in
    record {
      small = taken.small;
      free = not_out n now free;
      all = subst (λ xs. IsPermutation (out_of xs) (n ∷ out_of now)) back
          (subst (λ m. IsPermutation (out_of (slice_set now n (Some entry))) (m ∷ out_of now)) same
          (one_more 0 n entry now free));
    }
