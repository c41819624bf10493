-- The first bytes of a source, taken piece by piece.
use Rattle.std.proofs.Common.{◌≡◌, ◌≤◌, ◌+◌, ◌++◌, ℕ, List, [], length, take, drop, Option, Some, sym, ap, subst, ◌∙◌}
use Rattle.std.proofs.Common.{arith, append_assoc, length-drop}
use Rattle.std.proofs.lemmas.List.{take_all, drop_all, drop-drop}
use Rattle.std.proofs.Math.Seq.{take-add}
use Rattle.road_digest.specs.declared.digest.Digester.{Digester}
use Rattle.road_digest.specs.Digests.{Took}
use Rattle.day_reading.specs.Pieces.{TakesPiece}

-- so many of the first bytes were taken after some others, and the rest is left
abbrev pub HasFront : ℕ → List ℕ → List ℕ → Digester → Option (List ℕ) → Type 0
HasFront n bytes before d left = Took d (before ++ take n bytes) × (left ≡ Some (drop n bytes))

-- n bytes more
pub front_on : (a n : ℕ) (bytes before : List ℕ) (d : Digester) (left : Option (List ℕ)) →
    TakesPiece n (drop a bytes) (before ++ take a bytes) d left → HasFront (a + n) bytes before d left
front_on a n bytes before d left s =
    let joined : (before ++ take a bytes) ++ take n (drop a bytes) ≡ before ++ take (a + n) bytes =
    append_assoc before (take a bytes) (take n (drop a bytes))
    ∙ ap (λ xs. before ++ xs) (sym (take-add a n bytes)) in
    (subst (Took d) joined s.took, s.left_is ∙ ap Some (drop-drop n a bytes))

-- where the bytes end before, all were taken
pub front_ended : (a n most : ℕ) (bytes before : List ℕ) (d : Digester) (left : Option (List ℕ)) → a ≤ most → n ≡ 0 →
    TakesPiece n (drop a bytes) (before ++ take a bytes) d left → HasFront most bytes before d left
front_ended a n most bytes before d left few none s =
    let at = front_on a n bytes before d left s in
    let end : drop a bytes ≡ [] = s.ended none in
    let size : length (drop a bytes) ≡ 0 = ap length end in
    let long : length bytes ≤ a = omega (arith, length-drop a bytes, size) in
    let same : take (a + n) bytes ≡ take most bytes = take_all (a + n) bytes (omega arith)
    ∙ sym (take_all most bytes (omega arith)) in
    let rest : drop (a + n) bytes ≡ drop most bytes = drop_all (a + n) bytes (omega arith)
    ∙ sym (drop_all most bytes (omega arith)) in
    (subst (λ xs. Took d (before ++ xs)) same at.0, at.1 ∙ ap Some rest)

-- a front of another size
pub front_at : (a b : ℕ) (bytes before : List ℕ) (d : Digester) (left : Option (List ℕ)) → a ≡ b →
    HasFront a bytes before d left → HasFront b bytes before d left
front_at a b bytes before d left e h = subst (λ n. HasFront n bytes before d left) e h

-- one byte more than a front
pub front_more : (n : ℕ) (bytes : List ℕ) (d : Digester) (left : Option (List ℕ)) →
    HasFront 1 (drop n bytes) ([] ++ take n bytes) d left → HasFront (n + 1) bytes [] d left
front_more n bytes d left h = (
  subst (Took d)
      (append_assoc [] (take n bytes) (take 1 (drop n bytes)) ∙ ap (λ xs. [] ++ xs) (sym (take-add n 1 bytes))) h.0,
  h.1 ∙ ap Some (drop-drop 1 n bytes),
)
