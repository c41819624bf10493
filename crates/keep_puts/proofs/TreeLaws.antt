-- Trees of which one is changed.
use Rattle.std.proofs.Common.{◌≡◌, ℕ, ℤ, false, cond, List, refl, ap}
use Rattle.std.proofs.Common.{◌∙◌}
use Rattle.std.proofs.Common.{eq-eqb, ne_eqb}
use Rattle.sqlite_value.specs.Order.{Row}
use Rattle.sqlite_trees.specs.Tree.{Trees, with_tree, put_row}
use Rattle.sqlite_trees.specs.View.{View, Finds, SetsTree}
use Rattle.keep_puts.specs.Steps.{Joins}

-- the tree that was changed
pub with_same : (trees : Trees) (t : ℕ) (rows : List Row) → with_tree trees t rows t ≡ rows
with_same trees t rows = ap (λ b. cond b rows (trees t)) (eq-eqb t t refl)

-- another one
pub with_other : (trees : Trees) (t : ℕ) (rows : List Row) (u : ℕ) → (u ≡ t → ⊥) → with_tree trees t rows u ≡ trees u
with_other trees t rows u apart = ap (λ b. cond b rows (trees u)) (ne_eqb u t apart)

-- a row joins where a search by its number found none, and it was put
pub joins : (old mid new : View) (t : ℕ) (row spare : Row) (number : ℤ) → Finds (old.trees t) number spare false
    → mid ≡ old → SetsTree mid new t (put_row row) → Joins t row number old.trees new.trees
joins old mid new t row spare number none same sets =
    let before : mid.trees ≡ old.trees = ap (λ (v : View). v.trees) same in
    let after : new.trees ≡ with_tree mid.trees t (put_row row (mid.trees t)) = ap (λ (v : View). v.trees) sets.is in
    record {
      free = none;
      rows = ap (λ (all : Trees). all t) after ∙ with_same mid.trees t _
          ∙ ap (λ (all : Trees). put_row row (all t)) before;
      others = λ u apart. ap (λ (all : Trees). all u) after ∙ with_other mid.trees t _ u apart
          ∙ ap (λ (all : Trees). all u) before;
    }
