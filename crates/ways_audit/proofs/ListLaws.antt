-- lists side by side, of which one changes
use Rattle.std.proofs.Common.{◌≡◌, ℕ, ◌<◌, ◌==◌, ⊎_elim, cond, List, [], ◌∷◌, ◌++◌, length, slice_get, slice_set, Some}
use Rattle.std.proofs.Common.{sym, ap, subst, ◌∙◌, arith}
use Rattle.std.proofs.lemmas.List.{append-nil}
use Rattle.std.proofs.lemmas.Bool.{cases_eq, eq-eqb, ne_eqb}
use Rattle.day_floor.proofs.Inbox.{set_same, set_other}

module _ {D A : Type 0} (items : D → List A) where
  -- the list with this number, if there is one, has these items
  abbrev pub Has : List D → ℕ → List A → Type 0
  Has lists w xs = (d : D) → slice_get lists w ≡ Some d → items d ≡ xs

  -- one item more in one list
  pub pushed : (lists : List D) (k : ℕ) (old new : D) (x : A) → k < length lists → slice_get lists k ≡ Some old →
      items new ≡ items old ++ x ∷ [] → (w : ℕ) (xs : List A) → Has lists w xs →
      Has (slice_set lists k new) w (xs ++ cond (k == w) (x ∷ []) [])
  pushed lists k old new x high was more w xs h d found =
      ⊎_elim
      (λ q.
      let now : slice_get (slice_set lists k new) k ≡ Some d =
      subst (λ j. slice_get (slice_set lists k new) j ≡ Some d) q found in
      let same : new ≡ d = cc (set_same lists k new high) in
      let was_at : slice_get lists w ≡ Some old = subst (λ j. slice_get lists j ≡ Some old) (sym q) was in
      sym (ap items same) ∙ more ∙ ap (λ ys. ys ++ x ∷ []) (h old was_at)
      ∙ sym (ap (λ b. xs ++ cond b (x ∷ []) []) (eq-eqb k w (sym q))))
      (λ q. h d (sym (set_other lists k w new q) ∙ found) ∙ sym (append-nil xs)
      ∙ sym (ap (λ b. xs ++ cond b (x ∷ []) []) (ne_eqb k w (λ r. absurd (q (sym r))))))
      (cases_eq w k)

  -- the lists behind one that changes stay
  pub behind : (lists : List D) (k : ℕ) (new : D) (w : ℕ) (xs : List A) → k < w → Has lists w xs →
      Has (slice_set lists k new) w xs
  behind lists k new w xs less h d found = h d (sym (set_other lists k w new (apart k w less)) ∙ found)
    where
      apart : (k w : ℕ) → k < w → w ≡ k → ⊥
      apart k w less q = absurd (omega (arith, less, q))
