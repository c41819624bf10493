-- Laws of the fields of a page.
use Rattle.std.proofs.Common.{◌≡◌, ◌||◌, ◌<◌, ◌+◌, ◌∙◌, ℕ, Bool, false, List, [], ◌∷◌, length, take, map}
use Rattle.std.proofs.Common.{get_or, refl, ap}
use Rattle.std.specs.List.{list_any}
use Rattle.std.proofs.lemmas.List.Folds.{list_any_more}

-- one of the images passes where one passes by its image
pub any_map : {X Y : Type 0} (p : Y → Bool) (h : X → Y) (xs : List X) →
    list_any p (map h xs) ≡ list_any (λ x. p (h x)) xs
any_map p h [] = refl
any_map p h (x ∷ xs) = ap (λ b. p (h x) || b) (any_map p h xs)

-- where none of the first elements passes, nor does one more, none of the first and it does
pub none_more : {X : Type 0} (p : X → Bool) (xs : List X) (i : ℕ) (d : X) → i < length xs →
    list_any p (take i xs) ≡ false → p (get_or xs i d) ≡ false → list_any p (take (i + 1) xs) ≡ false
none_more p xs i d less before now =
    list_any_more p xs i d less ∙ ap (λ b. b || p (get_or xs i d)) before ∙ now
