-- The numbers of the places that are taken, as one is put into or cleared.
use Rattle.std.proofs.Common.{◌≡◌, ℕ, zero, suc, ◌+◌, ◌<◌, ◌≤◌, nat_lt, cond, true, false, List, [], ◌∷◌, length}
use Rattle.std.proofs.Common.{get_or, refl, sym, subst, ⊎_elim, arith, rules}
use Rattle.std.specs.Prelude.{Option, Some, None, slice_get, Contains, is_none, position}
use Rattle.std.specs.List.{position_or_len}
use Rattle.std.proofs.lemmas.Option.{none-some, same_Some}
use Rattle.std.proofs.lemmas.List.Elements.{Contains-append_cases}
use Rattle.ways_crews.specs.Places.{out_from, out_of}

-- where each place is free
pub free_all : {X : Type 0} → (n : ℕ) (places : List (Option X)) →
    ((i : ℕ) → i < length places → get_or places i None ≡ None) → out_from n places ≡ []
free_all n [] h = refl
free_all n (None ∷ places) h =
    free_all (n + 1) places (λ i lt. h (suc i) (let within : suc i < suc (length places) = omega arith in within))
free_all n (Some e ∷ places) h = absurd (none-some e (sym (h zero (omega arith))))

-- where no place is free, as many numbers are out as there are places
pub all_out : {X : Type 0} → (n : ℕ) (places : List (Option X)) → length places ≤ position_or_len is_none places →
    length (out_from n places) ≡ length places
all_out n [] h = refl
all_out n (None ∷ places) h = absurd (omega arith)
all_out n (Some e ∷ places) h = let r = all_out (n + 1) places (omega arith) in omega arith

-- the first free place is free
pub first_is_free : {X : Type 0} → (places : List (Option X)) → position_or_len is_none places < length places →
    slice_get places (position_or_len is_none places) ≡ Some None
first_is_free [] h = absurd (omega arith)
first_is_free (None ∷ places) h = refl
first_is_free (Some e ∷ places) h = let lt : position_or_len is_none places < length places = omega arith in
    let next : 1 + position_or_len is_none places ≡ suc (position_or_len is_none places) = omega arith in
    rw next (first_is_free places lt)

-- the number of a first free place: it is one of the places, and free
pub first_at : {X : Type 0} → (places : List (Option X)) (at : ℕ) → position is_none places ≡ Some at →
    (at < length places) × (slice_get places at ≡ Some None)
first_at places at h =
    elim (nat_lt (position_or_len is_none places) (length places)) as
    (λ b. nat_lt (position_or_len is_none places) (length places) ≡ b →
    cond b (Some (position_or_len is_none places)) None ≡ Some at → (at < length places)
    × (slice_get places at ≡ Some None)) [
      | true ↦ λ lt e. (let here : position_or_len is_none places ≡ at = same_Some _ _ e in
          let within : position_or_len is_none places < length places = search rules in
          subst (λ n. (n < length places) × (slice_get places n ≡ Some None)) here
          (within, first_is_free places within))
      | false ↦ λ ge e. absurd (none-some _ e)
    ] refl h

-- where fewer numbers are out than there are places, one is free
pub some_free : {X : Type 0} → (places : List (Option X)) → length (out_of places) < length places →
    position is_none places ≡ None → ⊥
some_free places few h =
    elim (nat_lt (position_or_len is_none places) (length places)) as
    (λ b. nat_lt (position_or_len is_none places) (length places) ≡ b →
    cond b (Some (position_or_len is_none places)) None ≡ None → ⊥) [
      | true ↦ λ lt e. none-some _ (sym e)
      | false ↦ λ ge e. (let past : length places ≤ position_or_len is_none places = search rules in let all =
          all_out 0 places past in omega arith)
    ] refl h

-- the one number of a list
first_of : (n m : ℕ) → Contains (n ∷ []) m → m ≡ n
first_of n m (zero, lt, is) = sym is
first_of n m (suc k, lt, is) = absurd (omega arith)

-- a number that is out is that of a place that is taken
pub out_is : {X : Type 0} → (n m : ℕ) (places : List (Option X)) → Contains (out_from n places) m → (i : ℕ) × (e : X)
    × (m ≡ n + i) × (slice_get places i ≡ Some (Some e))
out_is n m [] h = absurd (omega (arith, h.1))
out_is n m (None ∷ places) h = let (i, e, at, is) = out_is (n + 1) m places h in
    (i + 1, e, omega arith, let s : i + 1 ≡ suc i = omega arith in rw s is)
out_is n m (Some e ∷ places) h =
    ⊎_elim
    (λ (t : Contains (n ∷ []) m). (zero, e, (let s = first_of n m t in omega arith), refl))
    (λ (t : Contains (out_from (n + 1) places) m). (let (i, f, at, is) = out_is (n + 1) m places t in
    (i + 1, f, omega arith, let s : i + 1 ≡ suc i = omega arith in rw s is)))
    (Contains-append_cases (n ∷ []) (out_from (n + 1) places) m h)

-- the place of a number that is out is taken
pub taken_at : {X : Type 0} → (m : ℕ) (places : List (Option X)) → Contains (out_of places) m →
    (e : X) × (slice_get places m ≡ Some (Some e))
taken_at m places h = let (i, e, at, is) = out_is 0 m places h in let same : i ≡ m = omega arith in
    (e, subst (λ n. slice_get places n ≡ Some (Some e)) same is)
