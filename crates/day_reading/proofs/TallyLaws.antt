-- Naming the first lines that are refused.
use Rattle.std.proofs.Common.{◌≡◌, ◌<◌, ◌≤◌, List, [], ◌∷◌, ◌++◌, length, take, sym, ap, ◌∙◌, arith}
use Rattle.std.proofs.lemmas.List.{length-take, length_push, take_all, take-append-le}

module _ {X : Type 0} (all : List X) (x : X) (old : List X) (is : old ≡ take 1000 all) where
  -- there is room for one more
  pub one_more : length old < 1000 → old ++ x ∷ [] ≡ take 1000 (all ++ x ∷ [])
  one_more room =
      let size = ap length is ∙ length-take 1000 all in
      let whole : old ≡ all = is ∙ take_all 1000 all (omega (arith, size, room)) in
      ap (λ xs. xs ++ x ∷ []) whole
      ∙ sym (take_all 1000 (all ++ x ∷ []) (omega (arith, size, room, length_push all x)))

  -- there is none
  pub no_more : 1000 ≤ length old → old ≡ take 1000 (all ++ x ∷ [])
  no_more full =
      let size = ap length is ∙ length-take 1000 all in
      is ∙ sym (take-append-le 1000 all (x ∷ []) (omega (arith, size, full)))
