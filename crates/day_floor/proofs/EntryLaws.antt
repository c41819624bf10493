-- the two look-ups of a book, and the map of all sums
use Rattle.std.proofs.Common.{◌≡◌, ℕ, ◌+◌, ◌≤◌, ◌==◌, ◌&&◌, ◌++◌, Bool, true, false, cond, not, List, [], ◌∷◌, Option}
use Rattle.std.proofs.Common.{Some, None, refl, sym, ap, subst, ◌∙◌, arith, nat_eq}
use Rattle.std.specs.Option.{unwrap_or}
use Rattle.std.specs.List.{AllByRecursion, IsDistinct}
use Rattle.std.specs.Map.{lookup, keys_of}
use Rattle.std.specs.Cmp.{nat_eq_equiv}
use Rattle.std.specs.FinMap.{get, insert, same_map}
use Rattle.std.proofs.lemmas.Bool.{cond_both, cond-true, cond-false, eqb-true}
use Rattle.std.proofs.lemmas.Map.Keys.{IsDistinct-head, IsDistinct-tail, IsDistinct-cons}
use Rattle.day_floor.specs.declared.vehicle.First.{First}
use Rattle.day_floor.specs.declared.vehicle.Vehicle.{Vehicle}
use Rattle.day_floor.specs.Sums.{same_owner, sum_at}
use Rattle.day_floor.specs.Books.{spent_sums}
use Rattle.day_floor.specs.Entries.{vehicle_at, is_further, sum_of_first, first_sum, first_after, with_first, firsts}
use Rattle.day_floor.specs.Entries.{all_sums, looked_up}
use Rattle.day_floor.proofs.SumLaws.{get_sums, sums_after}
use Rattle.day_floor.proofs.OwnerOrder.{owner_total, owner_ties}

-- the two look-ups and one in all entries

-- a vehicle that has no entry is not found
pub no_vehicle : (vs : List (ℕ × Vehicle)) (v w : ℕ) → v ≡ w → AllByRecursion (λ k. nat_eq v k ≡ false) (keys_of vs) →
    lookup (nat_eq w) vs ≡ None
no_vehicle [] v w e h = refl
no_vehicle (x ∷ xs) v w e h =
    cond-false (nat_eq w x.0) (Some x.1) (lookup (nat_eq w) xs) (ap (λ k. nat_eq k x.0) (sym e) ∙ h.0)
    ∙ no_vehicle xs v w e h.1

-- a first charge's entry stands before all others
pub with_before : (first : Option First) (v : ℕ) (fs es : List ((ℕ × ℕ) × ℕ)) →
    with_first v first fs ++ es ≡ with_first v first (fs ++ es)
with_before None v fs es = refl
with_before (Some f) v fs es = refl

-- it is found by its vehicle and its expressway
step_first : (first : Option First) (v : ℕ) (es : List ((ℕ × ℕ) × ℕ)) (q : ℕ × ℕ) → nat_eq q.0 v ≡ true →
    lookup (same_owner q) (with_first v first es) ≡ sum_of_first first q.1 (lookup (same_owner q) es)
step_first None v es q h = refl
step_first (Some f) v es q h =
    ap (λ b. cond (b && q.1 == f.xway) (Some f.sum) (lookup (same_owner q) es)) h
    ∙ ap (λ b. cond b (Some f.sum) (lookup (same_owner q) es)) (nat_eq_equiv.symm q.1 f.xway)

-- and by no other vehicle
step_other : (first : Option First) (v : ℕ) (es : List ((ℕ × ℕ) × ℕ)) (q : ℕ × ℕ) → nat_eq q.0 v ≡ false →
    lookup (same_owner q) (with_first v first es) ≡ lookup (same_owner q) es
step_other None v es q h = refl
step_other (Some f) v es q h = ap (λ b. cond (b && q.1 == f.xway) (Some f.sum) (lookup (same_owner q) es)) h

-- the two look-ups find what one in all entries finds
pub found : (vs : List (ℕ × Vehicle)) (es : List ((ℕ × ℕ) × ℕ)) → IsDistinct nat_eq (keys_of vs) → (q : ℕ × ℕ) →
    lookup (same_owner q) (all_sums vs es) ≡ looked_up vs es q
found [] es h q = refl
found (v ∷ vs) es h q =
    let rest = found vs es (IsDistinct-tail nat_eq v.0 (keys_of vs) h) q in
    let before = ap (lookup (same_owner q)) (with_before v.1.first v.0 (firsts vs) es) in
    cond_both (nat_eq q.0 v.0) (Some v.1) (lookup (nat_eq q.0) vs)
    (λ o. lookup (same_owner q) (all_sums (v ∷ vs) es) ≡ sum_of_first
    (unwrap_or {T = Vehicle} o (record { told = 0; sum = 0; first = None })).first q.1 (lookup (same_owner q) es))
    (λ t. before ∙ (step_first v.1.first v.0 (all_sums vs es) q t ∙ ap (sum_of_first v.1.first q.1)
    (rest ∙ ap
    (λ o. sum_of_first (unwrap_or {T = Vehicle} o (record { told = 0; sum = 0; first = None })).first q.1
    (lookup (same_owner q) es))
    (no_vehicle vs v.0 q.0 (sym (eqb-true q.0 v.0 t)) (IsDistinct-head nat_eq v.0 (keys_of vs) h)))))
    (λ t. before ∙ (step_other v.1.first v.0 (all_sums vs es) q t ∙ rest))

-- the map has what the two look-ups find
pub get_spent : (vs : List (ℕ × Vehicle)) (es : List ((ℕ × ℕ) × ℕ)) → IsDistinct nat_eq (keys_of vs) → (q : ℕ × ℕ) →
    get (spent_sums vs es) q ≡ looked_up vs es q
get_spent vs es h q = get_sums (all_sums vs es) q ∙ found vs es h q

-- entries that look up alike but for one are the map with that one put in
pub spent_after : (vs ws : List (ℕ × Vehicle)) (es fs : List ((ℕ × ℕ) × ℕ)) → IsDistinct nat_eq (keys_of vs) →
    IsDistinct nat_eq (keys_of ws) → (k : ℕ × ℕ) (n : ℕ) →
    ((q : ℕ × ℕ) → looked_up ws fs q ≡ cond (same_owner k q) (Some n) (looked_up vs es q)) →
    spent_sums ws fs ≡ insert (spent_sums vs es) k n
spent_after vs ws es fs a b k n h =
    sums_after (all_sums vs es) (all_sums ws fs) k n
    (λ q. found ws fs b q ∙ (h q ∙ ap (λ o. cond (same_owner k q) (Some n) o) (sym (found vs es a q))))

-- entries that look up alike are one map
pub spent_same : (vs ws : List (ℕ × Vehicle)) (es : List ((ℕ × ℕ) × ℕ)) → IsDistinct nat_eq (keys_of vs) →
    IsDistinct nat_eq (keys_of ws) → ((v : ℕ) → (vehicle_at ws v).first ≡ (vehicle_at vs v).first) →
    spent_sums ws es ≡ spent_sums vs es
spent_same vs ws es a b h =
    same_map owner_total owner_ties (spent_sums ws es) (spent_sums vs es)
    (λ q. get_spent ws es b q
    ∙ (ap (λ f. sum_of_first f q.1 (lookup (same_owner q) es)) (h q.0) ∙ sym (get_spent vs es a q)))

-- where each sum stands once

-- a choice that is of nothing
none_by : (b : Bool) (n : ℕ) (o : Option ℕ) → cond b (Some n) o ≡ None → (b ≡ false) × (o ≡ None)
none_by true n o h = cc
none_by false n o h = (refl, h)

-- an owner that is not found is none of the entries'
none_all : (es : List ((ℕ × ℕ) × ℕ)) (q : ℕ × ℕ) → lookup (same_owner q) es ≡ None →
    AllByRecursion (λ k. same_owner q k ≡ false) (keys_of es)
none_all [] q h = tt
none_all (e ∷ es) q h = let parts = none_by (same_owner q e.0) e.1 (lookup (same_owner q) es) h in
    (parts.0, none_all es q parts.1)

-- what is found among later vehicles is found among all
later : (v : ℕ × Vehicle) (vs : List (ℕ × Vehicle)) (vid : ℕ) (w : Vehicle) →
    AllByRecursion (λ k. nat_eq v.0 k ≡ false) (keys_of vs) → (b : Bool) → nat_eq vid v.0 ≡ b →
    lookup (nat_eq vid) vs ≡ Some w → cond b (Some v.1) (lookup (nat_eq vid) vs) ≡ Some w
later v vs vid w head true e l = let gone = sym (no_vehicle vs v.0 vid (sym (eqb-true vid v.0 e)) head) ∙ l in cc
later v vs vid w head false e l = l

-- one vehicle more, whose first charge's sum is not among the further ones
with_apart : (first : Option First) (v : ℕ) (vs : List (ℕ × Vehicle)) (es : List ((ℕ × ℕ) × ℕ)) →
    AllByRecursion (λ k. nat_eq v k ≡ false) (keys_of vs) → IsDistinct nat_eq (keys_of vs) →
    IsDistinct same_owner (keys_of (all_sums vs es)) →
    ((f : First) → first ≡ Some f → lookup (same_owner (v, f.xway)) es ≡ None) →
    IsDistinct same_owner (keys_of (with_first v first (all_sums vs es)))
with_apart None v vs es head tail rest h = rest
with_apart (Some f) v vs es head tail rest h =
    IsDistinct-cons same_owner (v, f.xway) (keys_of (all_sums vs es))
    (none_all (all_sums vs es) (v, f.xway) (found vs es tail (v, f.xway)
    ∙ (ap (λ o. sum_of_first (unwrap_or {T = Vehicle} o (record { told = 0; sum = 0; first = None })).first f.xway
    (lookup (same_owner (v, f.xway)) es)) (no_vehicle vs v v refl head)
    ∙ h f refl)))
    rest

-- all sums are of owners apart, where no first charge's is among the further ones
pub all_apart : (vs : List (ℕ × Vehicle)) (es : List ((ℕ × ℕ) × ℕ)) → IsDistinct nat_eq (keys_of vs) →
    IsDistinct same_owner (keys_of es) →
    ((vid : ℕ) (v : Vehicle) (f : First) → lookup (nat_eq vid) vs ≡ Some v → v.first ≡ Some f →
    lookup (same_owner (vid, f.xway)) es ≡ None) → IsDistinct same_owner (keys_of (all_sums vs es))
all_apart [] es a b h = b
all_apart (v ∷ vs) es a b h =
    let head = IsDistinct-head nat_eq v.0 (keys_of vs) a in
    let tail = IsDistinct-tail nat_eq v.0 (keys_of vs) a in
    let rest = all_apart vs es tail b (λ vid w f l p. h vid w f (later v vs vid w head (nat_eq vid v.0) refl l) p) in
    subst (λ xs. IsDistinct same_owner (keys_of xs)) (sym (with_before v.1.first v.0 (firsts vs) es))
    (with_apart v.1.first v.0 vs es head tail rest
    (λ f e. h v.0 v.1 f (cond-true (nat_eq v.0 v.0) (Some v.1) (lookup (nat_eq v.0) vs) (nat_eq_equiv.refl v.0)) e))

-- a charge of one vehicle

-- a choice made twice
twice : (b : Bool) (m n o : Option ℕ) → cond b m o ≡ cond b m (cond b n o)
twice true m n o = refl
twice false m n o = refl

-- two choices that are never both made
swap : (a b : Bool) (m n o : Option ℕ) → (a ≡ true → b ≡ true → false ≡ true) →
    cond a m (cond b n o) ≡ cond b n (cond a m o)
swap true true m n o h = let e = h refl refl in cc
swap true false m n o h = refl
swap false true m n o h = refl
swap false false m n o h = refl

-- the same where the expressway is the first charge's, or is not
after_by : (b : Bool) (f : First) (xway toll : ℕ) (o : Option ℕ) (x : ℕ) (ox : Option ℕ) → f.xway == xway ≡ b →
    sum_of_first (Some (cond b (record { xway = xway; sum = f.sum + toll }) f)) x
    (cond (not b && xway == x) (Some (unwrap_or o 0 + toll)) ox)
    ≡ cond (xway == x) (Some (unwrap_or (cond b (Some f.sum) o) 0 + toll)) (cond (f.xway == x) (Some f.sum) ox)
after_by true f xway toll o x ox e =
    twice (xway == x) (Some (f.sum + toll)) (Some f.sum) ox
    ∙ ap (λ k. cond (xway == x) (Some (f.sum + toll)) (cond (k == x) (Some f.sum) ox))
    (sym (eqb-true f.xway xway e))
after_by false f xway toll o x ox e =
    swap (f.xway == x) (xway == x) (Some f.sum) (Some (unwrap_or o 0 + toll)) ox
    (λ s t. sym e ∙ (ap (λ k. f.xway == k) (eqb-true xway x t) ∙ s))

-- a charge on an expressway adds to the sum there, and leaves the others
after : (first : Option First) (xway toll : ℕ) (o : Option ℕ) (x : ℕ) (ox : Option ℕ) →
    (is_further first xway ≡ false → o ≡ None) → sum_of_first (Some (first_after first xway toll)) x
    (cond (is_further first xway && xway == x) (Some (unwrap_or o 0 + toll)) ox) ≡ cond (xway == x)
    (Some (unwrap_or (sum_of_first first xway o) 0 + toll)) (sum_of_first first x ox)
after None xway toll o x ox h =
    let none : unwrap_or o 0 ≡ 0 = ap (λ o. unwrap_or o 0) (h refl) in
    let all : toll ≡ unwrap_or o 0 + toll = omega arith in
    ap (λ n. cond (xway == x) (Some n) ox) all
after (Some f) xway toll o x ox h = after_by (f.xway == xway) f xway toll o x ox refl

-- both parts of a sum are at most the sum
pub parts_few : (first : Option First) (xway : ℕ) (o : Option ℕ) → (is_further first xway ≡ false → o ≡ None) →
    (unwrap_or o 0 ≤ unwrap_or (sum_of_first first xway o) 0) ×
    (first_sum first xway ≤ unwrap_or (sum_of_first first xway o) 0)
parts_few None xway o h = (omega arith, omega arith)
parts_few (Some f) xway o h = parts_by (f.xway == xway) (λ e. h (ap not e))
  where
    parts_by : (b : Bool) → (b ≡ true → o ≡ None) → (unwrap_or o 0 ≤ unwrap_or (cond b (Some f.sum) o) 0)
        × (unwrap_or (cond b (Some f.sum) None) 0 ≤ unwrap_or (cond b (Some f.sum) o) 0)
    parts_by true g = let none : unwrap_or o 0 ≡ 0 = ap (λ o. unwrap_or o 0) (g refl) in
        (omega (arith, none), omega arith)
    parts_by false g = (omega arith, omega arith)

-- a charge, as the two look-ups take it

module _ (vs ws : List (ℕ × Vehicle)) (es fs : List ((ℕ × ℕ) × ℕ)) (vid xway toll : ℕ) (was is : Vehicle)
    (there : Some was ≡ lookup (nat_eq vid) vs)
    (first : is.first ≡ Some (first_after was.first xway toll))
    (apart : is_further was.first xway ≡ false → lookup (same_owner (vid, xway)) es ≡ None)
    (vehicles : (v : ℕ) → lookup (nat_eq v) ws ≡ cond (nat_eq vid v) (Some is) (lookup (nat_eq v) vs))
    (sums : (q : ℕ × ℕ) → lookup (same_owner q) fs ≡ cond (is_further was.first xway && same_owner (vid, xway) q)
    (Some (sum_at es (vid, xway) + toll)) (lookup (same_owner q) es)) where
  -- the vehicle's entry
  pub entry_is : vehicle_at vs vid ≡ was
  entry_is = ap (λ o. unwrap_or {T = Vehicle} o (record { told = 0; sum = 0; first = None })) (sym there)

  -- by whether the vehicle is the charged one
  charged_by : (b : Bool) (v x : ℕ) → nat_eq vid v ≡ b →
      sum_of_first (unwrap_or (cond b (Some is) (lookup (nat_eq v) vs))
      (record { told = 0; sum = 0; first = None })).first x
      (cond (is_further was.first xway && (b && xway == x)) (Some (sum_at es (vid, xway) + toll))
      (lookup (same_owner (v, x)) es))
      ≡ cond (b && xway == x) (Some (unwrap_or (looked_up vs es (vid, xway)) 0 + toll)) (looked_up vs es (v, x))
  charged_by true v x e =
      let same : (vehicle_at vs v).first ≡ was.first = ap (λ k. (vehicle_at vs k).first) (sym (eqb-true vid v e))
      ∙ ap (λ w. w.first) entry_is in
      ap (λ f. sum_of_first f x
      (cond (is_further was.first xway && xway == x) (Some (sum_at es (vid, xway) + toll))
      (lookup (same_owner (v, x)) es))) first
      ∙ (after was.first xway toll (lookup (same_owner (vid, xway)) es) x (lookup (same_owner (v, x)) es) apart
      ∙ (ap (λ f. cond (xway == x) (Some (unwrap_or (sum_of_first f xway (lookup (same_owner (vid, xway)) es)) 0 +
      toll))
      (sum_of_first was.first x (lookup (same_owner (v, x)) es))) (ap (λ w. w.first) (sym entry_is))
      ∙ ap (λ f. cond (xway == x) (Some (unwrap_or (looked_up vs es (vid, xway)) 0 + toll))
      (sum_of_first f x (lookup (same_owner (v, x)) es))) (sym same)))
  charged_by false v x e =
      ap (λ b. sum_of_first (vehicle_at vs v).first x
      (cond b (Some (sum_at es (vid, xway) + toll)) (lookup (same_owner (v, x)) es)))
      (and_false (is_further was.first xway))
    where
      and_false : (b : Bool) → (b && false) ≡ false
      and_false true = refl
      and_false false = refl

  -- the two look-ups after a charge
  pub charged_up : (q : ℕ × ℕ) →
      looked_up ws fs q ≡ cond (same_owner (vid, xway) q) (Some (unwrap_or (looked_up vs es (vid, xway)) 0 + toll))
      (looked_up vs es q)
  charged_up q =
      ap (λ o. sum_of_first (unwrap_or {T = Vehicle} o (record { told = 0; sum = 0; first = None })).first q.1
      (lookup (same_owner q) fs)) (vehicles q.0)
      ∙ (ap (λ o. sum_of_first
      (unwrap_or (cond (nat_eq vid q.0) (Some is) (lookup (nat_eq q.0) vs))
      (record { told = 0; sum = 0; first = None })).first q.1 o) (sums q)
      ∙ charged_by (nat_eq vid q.0) q.0 q.1 refl)
