-- The line of an accident.
use Rattle.std.proofs.Common.{◌≡◌, ℕ, List, [], ◌∷◌, ◌++◌, append_assoc}

-- seven fields, of which the last is written with the LF
pub seven_joined : (a b c d e f g : List ℕ) → (a ++ 44 ∷ (b ++ 44 ∷ (c ++ 44 ∷ (d ++ 44 ∷ (e ++ 44 ∷ (f ++ 44 ∷ []))))))
    ++ (g ++ 10 ∷ []) ≡ (a ++ 44 ∷ (b ++ 44 ∷ (c ++ 44 ∷ (d ++ 44 ∷ (e ++ 44 ∷ (f ++ 44 ∷ g)))))) ++ 10 ∷ []
seven_joined a b c d e f g = simp append_assoc
