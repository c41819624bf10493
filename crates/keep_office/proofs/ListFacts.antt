-- lists in order, and filters that pass all or none
use Rattle.std.proofs.Common.{◌≡◌, ℕ, ◌<◌, ◌==◌, ◌||◌, not, nat_lt, cond, Bool, true, false, List, []}
use Rattle.std.proofs.Common.{◌∷◌, ◌++◌, length, Some, None, refl, sym, ap, subst, ◌∙◌, arith}
use Rattle.std.specs.List.{AllByRecursion, filter}
use Rattle.std.specs.List.Sorted.{IsStrictlySortedBy}
use Rattle.std.specs.declared.cmp.Ordering.{Ordering}
use Rattle.std.specs.declared.cmp.Ordering.TheVariants.{Less}
use Rattle.std.specs.Ordering.{nat_cmp}
use Rattle.std.specs.Cmp.{nat_eq_equiv}
use Rattle.std.proofs.lemmas.Bool.{ne_eqb, lt-ltb, cond-true, cond-false}
use Rattle.road_time.proofs.EachLaws.{joined}
use Rattle.road_time.specs.declared.day.SpentRow.{SpentRow}
use Rattle.keep_office.specs.declared.kept.DayRecord.{DayRecord}
use Rattle.keep_office.specs.declared.kept.PastRecord.{PastRecord}
use Rattle.keep_office.specs.Office.{is_kept}

-- there is something and there is nothing
pub some_apart : (p : PastRecord) → Some p ≡ None → ⊥
some_apart p e = cc

-- a test or true is true
or_true : (b : Bool) → (b || true) ≡ true
or_true true = refl
or_true false = refl

-- a number is itself
pub self_same : (n : ℕ) → (n == n) ≡ true
self_same n = nat_eq_equiv.refl n

-- a number below another compares so
pub nat_less : (m n : ℕ) → m < n → nat_cmp m n ≡ Less
nat_less m n h = cond-true (nat_lt m n) _ _ (lt-ltb m n h)

-- with no day kept, each amount is of a day that is not kept
pub each_true : (rs : List SpentRow) → AllByRecursion (λ r. not (is_kept [] r.day) ≡ true) rs
each_true [] = tt
each_true (r ∷ rs) = (refl, each_true rs)

-- a day other than the new one is kept as before
pub kept_more : (days : List DayRecord) (k : DayRecord) (day : ℕ) → (k.day ≡ day → ⊥) →
    is_kept (days ++ k ∷ []) day ≡ is_kept days day
kept_more [] k day apart = ap (λ b. b || false) (ne_eqb k.day day apart)
kept_more (r ∷ rs) k day apart = ap (λ b. r.day == day || b) (kept_more rs k day apart)

-- the new day is kept
pub kept_new : (days : List DayRecord) (k : DayRecord) (day : ℕ) → day ≡ k.day → is_kept (days ++ k ∷ []) day ≡ true
kept_new [] k day e = ap (λ b. b || false) (subst (λ n. (k.day == n) ≡ true) (sym e) (self_same k.day))
kept_new (r ∷ rs) k day e = ap (λ b. r.day == day || b) (kept_new rs k day e) ∙ or_true (r.day == day)

-- lists in order stay so, joined, where each of the first is below each of the second
pub rise_joined : {K : Type 0} (c : K → K → Ordering) (xs ys : List K) → IsStrictlySortedBy c xs →
    IsStrictlySortedBy c ys →
    AllByRecursion (λ x. AllByRecursion (λ y. c x y ≡ Less) ys) xs → IsStrictlySortedBy c (xs ++ ys)
unfolding IsStrictlySortedBy
rise_joined c [] ys hx hy h = hy
rise_joined c (x ∷ xs) ys hx hy h = (joined (λ y. c x y ≡ Less) xs ys hx.0 h.0, rise_joined c xs ys hx.1 hy h.1)

-- one key is in order
pub rise_one : {K : Type 0} (c : K → K → Ordering) (x : K) → IsStrictlySortedBy c (x ∷ [])
unfolding IsStrictlySortedBy
rise_one c x = (tt, tt)

-- none is in order
pub rise_none : {K : Type 0} (c : K → K → Ordering) → IsStrictlySortedBy c []
unfolding IsStrictlySortedBy
rise_none c = tt

-- a filter that each passes
pub all_pass : {X : Type 0} (p : X → Bool) (xs : List X) → AllByRecursion (λ x. p x ≡ true) xs → filter p xs ≡ xs
all_pass p [] h = refl
all_pass p (x ∷ xs) h = cond-true (p x) _ _ h.0 ∙ ap (λ ys. x ∷ ys) (all_pass p xs h.1)

-- a filter that none passes
pub none_pass : {X : Type 0} (p : X → Bool) (xs : List X) → AllByRecursion (λ x. p x ≡ false) xs → filter p xs ≡ []
none_pass p [] h = refl
none_pass p (x ∷ xs) h = cond-false (p x) _ _ h.0 ∙ none_pass p xs h.1

-- two filters that agree on each
pub pass_same : {X : Type 0} (p q : X → Bool) (xs : List X) → AllByRecursion (λ x. p x ≡ q x) xs →
    filter p xs ≡ filter q xs
pass_same p q [] h = refl
pass_same p q (x ∷ xs) h = ap (λ b. cond b (x ∷ filter p xs) (filter p xs)) h.0
    ∙ ap (λ ys. cond (q x) (x ∷ ys) ys) (pass_same p q xs h.1)

-- a list of no length has no elements
pub no_length : {X : Type 0} (xs : List X) → length xs ≡ 0 → xs ≡ []
no_length [] e = refl
no_length (x ∷ xs) e = absurd (omega arith)
