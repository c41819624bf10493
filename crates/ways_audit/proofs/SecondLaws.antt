-- Where the first second of some notices ends.
use Rattle.std.proofs.Common.{◌≡◌, ◌∙◌, ◌+◌, ◌==◌, ℕ, Bool, not, true, false, suc, refl, sym, ap, subst, List, []}
use Rattle.std.proofs.Common.{◌∷◌, ◌<◌, take, drop, get_or, length, arith}
use Rattle.std.specs.List.{position_or_len}
use Rattle.std.proofs.lemmas.Bool.{eqb-true}
use Rattle.std.proofs.lemmas.List.{at_drop_more}
use Rattle.road_time.specs.declared.road.Notice.{Notice}
use Rattle.ways_audit.specs.Seconds.{second_of, joined, seconds}

-- how many notices are of a second before the first that is not
abbrev pub of_second : ℕ → List Notice → ℕ
of_second s ws = position_or_len (λ v. not (second_of v == s)) ws

module _ (s : ℕ) (ns : List Notice) (i : ℕ) (d : Notice) (within : i < length ns) where
  -- one that is of the second is counted
  pub same_more : (second_of (get_or ns i d) == s) ≡ true →
      of_second s (drop i ns) ≡ 1 + of_second s (drop (i + 1) ns)
  same_more e = at_drop_more (of_second s) ns i d within ∙ rw e refl

  -- one that is not ends the count
  pub same_ends : (second_of (get_or ns i d) == s) ≡ false → of_second s (drop i ns) ≡ 0
  same_ends e = at_drop_more (of_second s) ns i d within ∙ rw e refl

-- a cut behind the notices that are of the first one's second
pub first_cut : (w : Notice) (ws : List Notice) → seconds (w ∷ ws)
    ≡ (w ∷ take (of_second (second_of w) ws) ws) ∷ seconds (drop (of_second (second_of w) ws) ws)
first_cut w [] = refl
first_cut w (v ∷ vs) = go (second_of v == second_of w) refl (first_cut v vs)
  where
    go : (b : Bool) → (second_of v == second_of w) ≡ b → seconds (v ∷ vs)
        ≡ (v ∷ take (of_second (second_of v) vs) vs) ∷ seconds (drop (of_second (second_of v) vs) vs)
        → seconds (w ∷ v ∷ vs)
        ≡ (w ∷ take (of_second (second_of w) (v ∷ vs)) (v ∷ vs))
        ∷ seconds (drop (of_second (second_of w) (v ∷ vs)) (v ∷ vs))
    go true e rest =
        let same : second_of v ≡ second_of w = eqb-true (second_of v) (second_of w) e in
        let n : 1 + of_second (second_of w) vs ≡ suc (of_second (second_of w) vs) = omega arith in
        let there : seconds (v ∷ vs)
        ≡ (v ∷ take (of_second (second_of w) vs) vs) ∷ seconds (drop (of_second (second_of w) vs) vs) =
        subst (λ s. seconds (v ∷ vs) ≡ (v ∷ take (of_second s vs) vs) ∷ seconds (drop (of_second s vs) vs)) same rest in
        ap (joined w) there ∙ rw (e, n) refl
    go false e rest = ap (joined w) rest ∙ rw e (ap (λ runs. (w ∷ []) ∷ runs) (sym rest))
