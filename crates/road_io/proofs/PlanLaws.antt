-- Laws of the calls that are planned to fail, and of what a source in memory gives.
use Rattle.std.proofs.Common.{◌≡◌, ℕ, ◌+◌, ◌-◌, ◌^◌, ◌<◌, ◌≤◌, ◌==◌, ◌||◌, min, false, List, [], ◌∷◌, ◌++◌, length}
use Rattle.std.proofs.Common.{take, drop, get_or, suc, inl, inr, ◌⊎◌, refl, sym, ap, ◌∙◌, arith}
use Rattle.std.specs.List.{list_any, slice_range}
use Rattle.std.proofs.lemmas.Bool.{ne_eqb, cases_lt}
use Rattle.std.proofs.lemmas.List.{take-append-drop, take-append-le, take_all, length-take-le, length-drop, drop-drop}
use Rattle.road_io.specs.Plans.{planned}

none_planned : (fails : List ℕ) (a : ℕ) → ((i : ℕ) → get_or fails i 0 < 2 ^ 32) → 2 ^ 32 ≤ a →
    list_any (λ f. f == a) fails ≡ false
none_planned [] a small h = refl
none_planned (f ∷ fs) a small h =
    ap (λ b. b || list_any (λ x. x == a) fs) (ne_eqb f a (λ e. omega (arith, small 0)))
    ∙ none_planned fs a (λ i. small (suc i)) h

planned_same : (fails : List ℕ) (a b : ℕ) → ((i : ℕ) → get_or fails i 0 < 2 ^ 32) →
    (a ≡ b) ⊎ ((2 ^ 32 ≤ a) × (2 ^ 32 ≤ b)) → list_any (λ f. f == a) fails ≡ list_any (λ f. f == b) fails
planned_same fails a b small (inl e) = ap (λ n. list_any (λ f. f == n) fails) e
planned_same fails a b small (inr h) = none_planned fails a small h.0 ∙ sym (none_planned fails b small h.1)

-- one call more, by a count that stops at its last value
pub plan_next : (fails : List ℕ) (calls next n : ℕ) → ((i : ℕ) → get_or fails i 0 < 2 ^ 32) →
    next ≡ min (calls + 1) (2 ^ 64 - 1) → planned fails next n ≡ planned fails calls (n + 1)
plan_next fails calls next n small is =
    elim (cases_lt calls (2 ^ 64 - 1)) [
      | inl h ↦ planned_same fails (next + n) (calls + (n + 1)) small (inl (omega arith))
      | inr h ↦ planned_same fails (next + n) (calls + (n + 1)) small (inr (omega arith, omega arith))
    ]

-- the bytes that a read moved, and those that are left
pub moved : (bs copied rest : List ℕ) (at n : ℕ) → at + n ≤ length bs → copied ≡ slice_range bs at (at + n) →
    drop at bs ≡ take n (copied ++ rest) ++ drop (at + n) bs
moved bs copied rest at n h is =
    let size : at + n - at ≡ n = omega arith in
    let same = is ∙ ap (λ k. take k (drop at bs)) size in
    let long : length copied ≡ n = ap length same ∙ length-take-le n (drop at bs) (omega (arith, length-drop at bs)) in
    let whole : take n (copied ++ rest) ≡ copied = take-append-le n copied rest (omega arith)
    ∙ take_all n copied (omega arith) in
    sym (take-append-drop n (drop at bs)) ∙ ap (λ l. l ++ drop n (drop at bs)) (sym same ∙ sym whole)
    ∙ ap (λ l. take n (copied ++ rest) ++ l) (drop-drop n at bs)
