-- Lists that gain one more at their end.
use Rattle.std.proofs.Common.{◌≡◌, suc, ◌+◌, ◌<◌, take, get_or, length, List, [], ◌∷◌, ◌++◌, refl, sym, ap, subst}
use Rattle.std.proofs.Common.{◌∙◌, arith}
use Rattle.std.specs.List.{AllByRecursion}
use Rattle.sqlite_trees.specs.Tree.{IsAscending}

module _ {X : Type 0} where
  -- the last of a list, or what stands in for it
  abbrev pub end : X → List X → X
  end d [] = d
  end d (x ∷ xs) = end x xs

  -- it is what was put there
  pub end_is : (d : X) (front : List X) (x : X) → end d (front ++ x ∷ []) ≡ x
  end_is d [] x = refl
  end_is d (y ∷ front) x = end_is y front x

  -- a list has one last element
  pub one_end : (front other : List X) (x y : X) → front ++ x ∷ [] ≡ other ++ y ∷ [] → x ≡ y
  one_end front other x y same = sym (end_is x front x) ∙ ap (end x) same ∙ end_is x other y

  -- what comes before the last
  pub take_front : (front : List X) (x : X) → take (length front) (front ++ x ∷ []) ≡ front
  take_front [] x = refl
  take_front (y ∷ front) x = ap (λ l. y ∷ l) (take_front front x)

  -- and one more is all of it
  take_next : (front : List X) (x : X) → take (suc (length front)) (front ++ x ∷ []) ≡ front ++ x ∷ []
  take_next [] x = refl
  take_next (y ∷ front) x = ap (λ l. y ∷ l) (take_next front x)

  -- the same, by a sum
  pub take_whole : (front : List X) (x : X) → take (length front + 1) (front ++ x ∷ []) ≡ front ++ x ∷ []
  take_whole front x =
      let next : suc (length front) ≡ length front + 1 = omega arith in
      subst (λ n. take n (front ++ x ∷ []) ≡ front ++ x ∷ []) next (take_next front x)

  -- the last at its place
  pub at_end : (front : List X) (x d : X) → get_or (front ++ x ∷ []) (length front) d ≡ x
  at_end [] x d = refl
  at_end (y ∷ front) x d = at_end front x d

  -- which is there
  pub end_within : (front : List X) (x : X) → length front < length (front ++ x ∷ [])
  end_within [] x = omega arith
  end_within (y ∷ front) x = let more = end_within front x in omega (arith, more)

  -- what holds of all holds of the last
  pub of_end : (P : X → Type 0) (front : List X) (x : X) → AllByRecursion P (front ++ x ∷ []) → P x
  of_end P [] x all = all.0
  of_end P (y ∷ front) x all = of_end P front x all.1

  -- what rises has the last above the others
  pub below_end : (R : X → X → Type 0) (front : List X) (x : X) → IsAscending R (front ++ x ∷ [])
      → AllByRecursion (λ y. R y x) front
  below_end R [] x up = tt
  below_end R (y ∷ front) x up = (of_end (R y) front x up.0, below_end R front x up.1)
