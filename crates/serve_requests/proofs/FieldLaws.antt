-- Laws of the fields with a name.
use Rattle.std.proofs.Common.{◌≡◌, ℕ, ◌+◌, ◌<◌, Bool, true, false, cond, List, [], ◌∷◌, ◌++◌, length, take, map, get_or}
use Rattle.std.proofs.Common.{refl, ap, ◌∙◌}
use Rattle.std.specs.Str.{str_eq_ignore_ascii_case}
use Rattle.std.proofs.lemmas.List.{map-append, take_more}
use Rattle.serve_requests.specs.Requests.{value_if, values_of}

-- a field's value stands before the others
value_append : (name : List ℕ) (f : List ℕ × List ℕ) (xs ys : List (List ℕ)) →
    value_if name f (xs ++ ys) ≡ value_if name f xs ++ ys
value_append name f xs ys = by (str_eq_ignore_ascii_case f.0 name)
  where
    by : (v : Bool) → cond v (f.1 ∷ (xs ++ ys)) (xs ++ ys) ≡ cond v (f.1 ∷ xs) xs ++ ys
    by true = refl
    by false = refl

-- one field more
values_more : (name : List ℕ) (fs : List (List ℕ × List ℕ)) (f : List ℕ × List ℕ) →
    values_of name (fs ++ f ∷ []) ≡ values_of name fs ++ value_if name f []
values_more name [] f = refl
values_more name (g ∷ fs) f = ap (value_if name g) (values_more name fs f)
    ∙ value_append name g (values_of name fs) (value_if name f [])

-- the values after one field more
pub values_on : {X : Type 0} (name : List ℕ) (h : X → List ℕ × List ℕ) (xs : List X) (i : ℕ) (d : X) → i < length xs
    → values_of name (map h (take (i + 1) xs)) ≡ values_of name (map h (take i xs)) ++ value_if name
    (h (get_or xs i d)) []
values_on name h xs i d less =
    ap (λ ys. values_of name (map h ys)) (take_more xs i d less)
    ∙ ap (values_of name) (map-append h (take i xs) (get_or xs i d ∷ []))
    ∙ values_more name (map h (take i xs)) (h (get_or xs i d))
