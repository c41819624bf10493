-- lists that agree as far as they are compared
use Rattle.std.proofs.Common.{◌≡◌, ℕ, zero, suc, ◌+◌, ◌≤◌, List, [], ◌∷◌, ◌++◌, length, take, refl, sym, ap, ◌∙◌, arith}
use Rattle.std.specs.List.{slice_get, cons_option}
use Rattle.std.proofs.lemmas.List.{take_all}

-- one element more, if there is one
pub take_get : {X : Type 0} (i : ℕ) (xs : List X) → take (suc i) xs ≡ take i xs ++ cons_option (slice_get xs i) []
take_get zero [] = refl
take_get zero (x ∷ xs) = refl
take_get (suc i) [] = refl
take_get (suc i) (x ∷ xs) = ap (λ ys. x ∷ ys) (take_get i xs)

-- they agree one element further
pub agree_more : {X : Type 0} (i : ℕ) (xs ys : List X) → take i xs ≡ take i ys → slice_get xs i ≡ slice_get ys i →
    take (i + 1) xs ≡ take (i + 1) ys
agree_more i xs ys e f =
    let more : i + 1 ≡ suc i = omega arith in
    rw (more, take_get i xs, take_get i ys, e, f) refl

-- they agree to the end of both
pub agree_all : {X : Type 0} (i : ℕ) (xs ys : List X) → length xs ≤ i → length ys ≤ i → take i xs ≡ take i ys → xs ≡ ys
agree_all i xs ys h g e = sym (take_all i xs h) ∙ e ∙ take_all i ys g
