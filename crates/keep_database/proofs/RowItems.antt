-- Items of a list, and the rows that they are stored as.
use Rattle.std.proofs.Common.{◌≡◌, ℕ, zero, suc, ◌+◌, ◌<◌, List, [], ◌∷◌, ◌++◌, length, get_or, map, take, refl, sym}
use Rattle.std.proofs.Common.{ap₂, ◌∙◌, arith}
use Rattle.std.specs.List.{AllByRecursion}
use Rattle.std.proofs.lemmas.List.{take_more}
use Rattle.sqlite_value.specs.Order.{Row}

-- the row at a place is that of the item there
pub record ItemAt {X : Type 0} (row : X → Row) (P : X → Type 0) (xs : List X) (i : ℕ) (d : Row) (x : X) : Type 0 where
  pub within : i < length xs
  pub has : P (get_or xs i x)
  pub is : get_or (map row xs) i d ≡ row (get_or xs i x)

pub item_at : {X : Type 0} (row : X → Row) (P : X → Type 0) (xs : List X) (i : ℕ) (d : Row) (x : X) →
    i < length (map row xs) → AllByRecursion P xs → ItemAt row P xs i d x
item_at row P [] i d x less all = absurd (omega (arith, less))
item_at row P (y ∷ ys) zero d x less all = record { within = omega arith; has = all.0; is = refl }
item_at row P (y ∷ ys) (suc i) d x less all =
    let more = item_at row P ys i d x (omega (arith, less)) all.1 in
    record { within = omega (arith, more.within); has = more.has; is = more.is }

-- one item further
pub next_item : {X : Type 0} (xs ys : List X) (i : ℕ) (x : X) → i < length xs → ys ≡ take i xs → x ≡ get_or xs i x →
    ys ++ x ∷ [] ≡ take (i + 1) xs
next_item xs ys i x less so_far same = ap₂ (λ (a : List _) b. a ++ b ∷ []) so_far same ∙ sym (take_more xs i x less)

-- both hold of each
pub all_both : {X : Type 0} (P Q : X → Type 0) (xs : List X) → AllByRecursion P xs → AllByRecursion Q xs →
    AllByRecursion (λ x. P x × Q x) xs
all_both P Q [] p q = tt
all_both P Q (x ∷ xs) p q = ((p.0, q.0), all_both P Q xs p.1 q.1)
