-- What the steps that take rows away make of trees.
use Rattle.std.specs.Prelude.{◌≡◌, ◌<◌, ℕ, Bool, true, false, [], length}
use Rattle.sqlite_trees.specs.Tree.{Trees}

-- all trees but one are as they were
abbrev pub OthersStay : ℕ → Trees → Trees → Type 0
OthersStay tree old new = (t : ℕ) → (t ≡ tree → ⊥) → new t ≡ old t

-- one of a tree, or more, was taken away, or it had none
abbrev pub Pops : ℕ → Bool → Trees → Trees → Type 0
Pops tree true old new = (length (new tree) < length (old tree)) × OthersStay tree old new
Pops tree false old new = (new tree ≡ []) × OthersStay tree old new

-- a tree is empty now, and the others are as they were
pub record Clears (tree : ℕ) (old new : Trees) : Type 0 where
  pub empty : new tree ≡ []
  pub others : OthersStay tree old new

-- the amounts and their index are gone, and the other trees are as they were
pub record ClearsAmounts (old new : Trees) : Type 0 where
  pub spent : new 1 ≡ []
  pub key : new 2 ≡ []
  pub others : (t : ℕ) → (t ≡ 1 → ⊥) → (t ≡ 2 → ⊥) → new t ≡ old t

-- the days and their seals are gone, and the other trees are as they were
pub record ClearsDays (old new : Trees) : Type 0 where
  pub days : new 0 ≡ []
  pub seals : new 4 ≡ []
  pub others : (t : ℕ) → (t ≡ 0 → ⊥) → (t ≡ 4 → ⊥) → new t ≡ old t

-- days, amounts, their index, the history and the seals are gone, and the other trees are as they were
pub record ClearsAll (old new : Trees) : Type 0 where
  pub days : new 0 ≡ []
  pub spent : new 1 ≡ []
  pub key : new 2 ≡ []
  pub past : new 3 ≡ []
  pub seals : new 4 ≡ []
  pub others : (t : ℕ) → 4 < t → new t ≡ old t
