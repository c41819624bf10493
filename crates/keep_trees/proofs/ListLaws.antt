-- What a search by a number finds among rows that things are kept as.
use Rattle.std.proofs.Common.{◌≡◌, ℕ, pos, ◌==◌, true, false, List, [], ◌∷◌, map, filter, refl}
use Rattle.std.proofs.Common.{sym, ap, ◌∙◌, arith, is_eq}
use Rattle.std.specs.Ordering.{int_cmp}
use Rattle.std.proofs.lemmas.Bool.Decides.{nat_tests}
use Rattle.sqlite_value.specs.declared.value.Value.TheVariants.{Int}
use Rattle.sqlite_value.specs.Order.{Row, column, value_cmp}
use Rattle.sqlite_value.proofs.OrderLemmas.{value_cmp-Int}
use Rattle.sqlite_trees.specs.Tree.{has_rowid}
use Rattle.sqlite_trees.specs.View.{Finds}
use Rattle.sqlite_keyed.proofs.ListLemmas.{filter-map, filter_same}

module _ {X : Type 0} (row : X → Row) (key : X → ℕ) (numbered : (x : X) → column (row x) 0 ≡ Int (pos (key x))) where
  -- a row has the number of what it keeps
  has_key : (n : ℕ) (x : X) → has_rowid (pos n) (row x) ≡ (key x == n)
  has_key n x = ap (λ v. is_eq (value_cmp v (Int (pos n)))) (numbered x)
      ∙ ap is_eq (value_cmp-Int (pos (key x)) (pos n)) ∙ level (key x) n
    where
      level : (m k : ℕ) → is_eq (int_cmp (pos m) (pos k)) ≡ (m == k)
      level m k = grind (arith, nat_tests)

  -- the rows of a number are those of what has it
  picked : (n : ℕ) (xs : List X) → filter (has_rowid (pos n)) (map row xs) ≡ map row (filter (λ x. key x == n) xs)
  picked n xs = filter-map (has_rowid (pos n)) row xs ∙ ap (map row) (filter_same _ _ (has_key n) xs)

  -- one that is found is the only one of its number
  pub record IsHit (n : ℕ) (xs : List X) (r : Row) : Type 0 where
    pub hit : X
    pub only : filter (λ x. key x == n) xs ≡ hit ∷ []
    pub row_is : r ≡ row hit

  -- where one row is made, one thing is there
  one_of : (xs : List X) (r : Row) → map row xs ≡ r ∷ [] → (x : X) × (xs ≡ x ∷ []) × (r ≡ row x)
  one_of [] r h = absurd (cc)
  one_of (x ∷ []) r h = (x, refl, cc)
  one_of (x ∷ y ∷ xs) r h = absurd (cc)

  -- a row that is found is that of a hit
  pub is_hit : (n : ℕ) (xs : List X) (rows : List Row) (r : Row) → rows ≡ map row xs → Finds rows (pos n) r true
      → IsHit n xs r
  is_hit n xs rows r are finds =
      let one = one_of (filter (λ x. key x == n) xs) r
      (sym (picked n xs) ∙ ap (filter (has_rowid (pos n))) (sym are) ∙ finds) in
      record { hit = one.0; only = one.1; row_is = one.2 }

  -- where no row is made, nothing is there
  none_of : (xs : List X) → map row xs ≡ [] → xs ≡ []
  none_of [] h = refl
  none_of (x ∷ xs) h = absurd (cc)

  -- where none is found, none has the number
  pub no_hit : (n : ℕ) (xs : List X) (rows : List Row) (r : Row) → rows ≡ map row xs → Finds rows (pos n) r false →
      filter (λ x. key x == n) xs ≡ []
  no_hit n xs rows r are finds =
      none_of (filter (λ x. key x == n) xs) (sym (picked n xs) ∙ ap (filter (has_rowid (pos n))) (sym are) ∙ finds)
