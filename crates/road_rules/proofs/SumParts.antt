-- sums of some of the charges
use Rattle.std.proofs.Common.{◌≡◌, ℕ, zero, suc, ◌+◌, ◌≤◌, ◌<◌, Bool, true, false, cond, List, [], ◌∷◌, ◌++◌, length}
use Rattle.std.proofs.Common.{map, take, get_or, refl, ap, ◌∙◌, arith}
use Rattle.std.specs.List.{filter, flat_map}
use Rattle.std.specs.Ordering.{nat_cmp}
use Rattle.std.specs.BTreeSet.{insert_key}
use Rattle.std.proofs.lemmas.List.{append-nil, map_more, map-append, take_more}
use Rattle.std.proofs.lemmas.List.Elements.{filter-append}
use Rattle.std.proofs.lemmas.List.Concat.{flat_map-append}
use Rattle.std.proofs.lemmas.List.Sums.{fold_push, sum_by-cons, sum_by-append}
use Rattle.std.proofs.lemmas.Bool.{cond-true, cond-false}
use Rattle.road_time.specs.Day.{ChargedToll, sum_of}
use Rattle.road_time.specs.declared.day.SpentRow.{SpentRow}
use Rattle.road_time.specs.Rows.{in_order}
use Rattle.road_rules.specs.declared.account.StayCharge.{StayCharge as CodeCharge}
use Rattle.road_rules.specs.Accounts.{shown_charge}

-- some of the charges come to no more than all
pub sum_kept : (p : ChargedToll → Bool) (cs : List ChargedToll) → sum_of (filter p cs) ≤ sum_of cs
sum_kept p [] = omega arith
sum_kept p (c ∷ cs) = step (p c) (sum_kept p cs)
  where
    step : (b : Bool) → sum_of (filter p cs) ≤ sum_of cs →
        sum_of (cond b (c ∷ filter p cs) (filter p cs)) ≤ sum_of (c ∷ cs)
    step true h =
        omega (
          arith,
          h,
          sum_by-cons (λ (x : ChargedToll). x.toll) c (filter p cs),
          sum_by-cons (λ (x : ChargedToll). x.toll) c
              cs,
        )
    step false h = omega (arith, h, sum_by-cons (λ (x : ChargedToll). x.toll) c cs)

pub sum_taken : (n : ℕ) (cs : List ChargedToll) → sum_of (take n cs) ≤ sum_of cs
sum_taken zero cs = omega arith
sum_taken (suc n) [] = omega arith
sum_taken (suc n) (c ∷ cs) =
    omega (
      arith,
      sum_taken n cs,
      sum_by-cons (λ (x : ChargedToll). x.toll) c (take n cs),
      sum_by-cons
          (λ (x : ChargedToll). x.toll) c cs,
    )

map_taken : (n : ℕ) (cs : List CodeCharge) → map shown_charge (take n cs) ≡ take n (map shown_charge cs)
map_taken zero cs = refl
map_taken (suc n) [] = refl
map_taken (suc n) (c ∷ cs) = ap (λ xs. shown_charge c ∷ xs) (map_taken n cs)

module _ (p : ChargedToll → Bool) (cs : List CodeCharge) (i : ℕ) (d : CodeCharge) (within : i < length cs) where
  abbrev next : ChargedToll
  next = shown_charge (get_or cs i d)

  kept_more : filter p (map shown_charge (take (i + 1) cs)) ≡ filter p (map shown_charge (take i cs)) ++ filter p
      (next ∷ [])
  kept_more = ap (filter p) (map_more shown_charge cs i d within)
      ∙ filter-append p (map shown_charge (take i cs)) (next ∷ [])

  -- one charge more, of those that are meant
  pub kept_yes : p next ≡ true → filter p (map shown_charge (take (i + 1) cs)) ≡ filter p (map shown_charge (take i cs))
      ++ next ∷ []
  kept_yes e =
      kept_more ∙ ap (λ xs. filter p (map shown_charge (take i cs)) ++ xs) (cond-true (p next) (next ∷ []) [] e)

  -- one that is not
  pub kept_no : p next ≡ false → filter p (map shown_charge (take (i + 1) cs)) ≡ filter p (map shown_charge (take i cs))
  kept_no e =
      kept_more ∙ ap (λ xs. filter p (map shown_charge (take i cs)) ++ xs) (cond-false (p next) (next ∷ []) [] e)
      ∙ append-nil _

  zero_more : (n : ℕ) → n + 0 ≡ n
  zero_more n = omega arith

  one_sum : (c : ChargedToll) → sum_of (c ∷ []) ≡ c.toll
  one_sum c = sum_by-cons (λ (x : ChargedToll). x.toll) c [] ∙ zero_more c.toll

  pub sum_yes : p next ≡ true →
      sum_of (filter p (map shown_charge (take (i + 1) cs))) ≡ sum_of (filter p (map shown_charge (take i cs)))
      + next.toll
  sum_yes e =
      ap sum_of (kept_yes e) ∙ sum_by-append (λ (x : ChargedToll). x.toll) (filter p (map shown_charge (take i cs)))
      (next ∷ [])
      ∙ ap (λ n. sum_of (filter p (map shown_charge (take i cs))) + n) (one_sum next)

  pub sum_few : sum_of (filter p (map shown_charge (take (i + 1) cs))) ≤ sum_of (map shown_charge cs)
  sum_few =
      let a = sum_kept p (map shown_charge (take (i + 1) cs)) in
      let b = sum_taken (i + 1) (map shown_charge cs) in
      let e : sum_of (map shown_charge (take (i + 1) cs)) ≡ sum_of (take (i + 1) (map shown_charge cs)) =
      ap sum_of (map_taken (i + 1) cs) in
      omega (arith, a, b, e)

-- one number more among those in order
pub order_more : (f : ChargedToll → ℕ) (cs : List CodeCharge) (i : ℕ) (d : CodeCharge) → i < length cs →
    in_order (map f (map shown_charge (take (i + 1) cs))) ≡ insert_key nat_cmp
    (in_order (map f (map shown_charge (take i cs)))) (f (shown_charge (get_or cs i d)))
order_more f cs i d h =
    ap (λ xs. in_order (map f xs)) (map_more shown_charge cs i d h)
    ∙ ap in_order (map-append f (map shown_charge (take i cs)) (shown_charge (get_or cs i d) ∷ []))
    ∙ fold_push (insert_key nat_cmp) [] (map f (map shown_charge (take i cs))) (f (shown_charge (get_or cs i d)))

-- one row more, if it is meant
pub rows_more : (p : SpentRow → Bool) (f : ℕ → SpentRow) (xs : List ℕ) (i : ℕ) (d : ℕ) (b : Bool) → i < length xs →
    p (f (get_or xs i d)) ≡ b →
    filter p (map f (take (i + 1) xs)) ≡ filter p (map f (take i xs)) ++ cond b (f (get_or xs i d) ∷ []) []
rows_more p f xs i d b h e =
    ap (filter p) (map_more f xs i d h) ∙ filter-append p (map f (take i xs)) (f (get_or xs i d) ∷ [])
    ∙ ap (λ c. filter p (map f (take i xs)) ++ cond c (f (get_or xs i d) ∷ []) []) e

-- the rows of one vehicle more
pub flat_rows_more : (p : SpentRow → Bool) (f : ℕ → List SpentRow) (xs : List ℕ) (i : ℕ) (d : ℕ) → i < length xs →
    filter p (flat_map f (take (i + 1) xs)) ≡ filter p (flat_map f (take i xs)) ++ filter p (f (get_or xs i d))
flat_rows_more p f xs i d h =
    ap (λ ys. filter p (flat_map f ys)) (take_more xs i d h)
    ∙ ap (filter p)
    (flat_map-append f (take i xs) (get_or xs i d ∷ [])
    ∙ ap (λ ys. flat_map f (take i xs) ++ ys) (append-nil (f (get_or xs i d))))
    ∙ filter-append p (flat_map f (take i xs)) (f (get_or xs i d))
