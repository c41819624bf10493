-- numbers in order, each once
use Rattle.std.proofs.Common.{◌≡◌, ℕ, ◌≤◌, ◌<◌, ◌==◌, ◌||◌, ⊎_elim, Bool, true, false, cond, not, List, []}
use Rattle.std.proofs.Common.{◌∷◌, refl, sym, ap, ◌∙◌, arith, nat_lt}
use Rattle.std.specs.List.{fold, count_by, AllByRecursion}
use Rattle.std.specs.Ordering.{nat_cmp, match_ordering}
use Rattle.std.specs.declared.cmp.Ordering.{Ordering}
use Rattle.std.specs.declared.cmp.Ordering.TheVariants.{Less, Equal, Greater}
use Rattle.std.specs.BTreeSet.{insert_key}
use Rattle.std.proofs.lemmas.List.Sums.{sum_by-cons}
use Rattle.std.proofs.lemmas.Bool.{cases_Bool, cond_both, and_parts, and_from, or_parts, or_from, ltb-true}
use Rattle.std.proofs.lemmas.Bool.{ltb-false, eqb-true, eqb-false, eq-eqb, ne_eqb, not-true, not_from_false}
use Rattle.road_time.specs.Notes.{has}
use Rattle.road_time.specs.Rows.{in_order}
use Rattle.road_time.proofs.NoteLaws.{once}

-- numbers that stand there once

count_none : (v : ℕ) (vs : List ℕ) → has vs v ≡ false → count_by (λ w. v == w) vs ≡ 0
count_none v [] h = refl
count_none v (w ∷ ws) h =
    let parts = or_parts (w == v) (has ws v) h in
    let other : (v == w) ≡ false = ne_eqb v w (λ e. eqb-false w v parts.0 (sym e)) in
    rw (sum_by-cons (λ k. cond (v == k) 1 0) w ws, count_none v ws parts.1, other) refl

pub count_one : (v : ℕ) (vs : List ℕ) → once vs ≡ true → has vs v ≡ true → count_by (λ w. v == w) vs ≡ 1
count_one v [] o h = cc
count_one v (w ∷ ws) o h =
    let parts = and_parts (not (has ws w)) (once ws) o in
    sum_by-cons (λ k. cond (v == k) 1 0) w ws ∙ ⊎_elim
    (λ e. let same : w ≡ v = eqb-true w v e in
    let here : (v == w) ≡ true = eq-eqb v w (sym same) in
    rw (here, count_none v ws (ap (has ws) (sym same) ∙ not-true (has ws w) parts.0)) refl)
    (λ e. let other : (v == w) ≡ false = ne_eqb v w (λ i. eqb-false w v e (sym i)) in
    rw (other, count_one v ws parts.1 (rest (w == v) (has ws v) e h)) refl)
    (cases_Bool (w == v))
  where
    rest : (a b : Bool) → a ≡ false → (a || b) ≡ true → b ≡ true
    rest a b e h = grind arith

-- the numbers in order

pub order_cases : (k x : ℕ) (Q : Ordering → Type 0) → (k < x → Q Less) → (k ≡ x → Q Equal) → (x < k → Q Greater) →
    Q (nat_cmp k x)
order_cases k x Q f g h =
    cond_both (nat_lt k x) Less (cond (k == x) Equal Greater) Q (λ e. f (ltb-true k x e))
    (λ e. cond_both (k == x) Equal Greater Q (λ i. g (eqb-true k x i))
    (λ i. h (more (ltb-false k x e) (eqb-false k x i))))
  where
    more : x ≤ k → (k ≡ x → ⊥) → x < k
    more l n = omega arith

abbrev pub Above : ℕ → List ℕ → Type 0
Above x xs = AllByRecursion (λ y. x < y) xs

abbrev pub Rises : List ℕ → Type 0
Rises [] = Unit {0}
Rises (x ∷ xs) = Above x xs × Rises xs

above_all : (k x : ℕ) (xs : List ℕ) → k < x → Above x xs → Above k xs
above_all k x [] l h = tt
above_all k x (y ∷ ys) l h = (omega (arith, l, h.0), above_all k x ys l h.1)

insert_above : (x k : ℕ) (xs : List ℕ) → Above x xs → x < k → Above x (insert_key nat_cmp xs k)
insert_above x k [] h l = (l, tt)
insert_above x k (y ∷ ys) h l =
    order_cases k y (λ o. Above x (match_ordering o (k ∷ y ∷ ys) (y ∷ ys) (y ∷ insert_key nat_cmp ys k))) (λ _. (l, h))
    (λ _. h) (λ _. (h.0, insert_above x k ys h.1 l))

insert_rises : (k : ℕ) (xs : List ℕ) → Rises xs → Rises (insert_key nat_cmp xs k)
insert_rises k [] h = (tt, tt)
insert_rises k (y ∷ ys) h =
    order_cases k y (λ o. Rises (match_ordering o (k ∷ y ∷ ys) (y ∷ ys) (y ∷ insert_key nat_cmp ys k)))
    (λ l. ((l, above_all k y ys l h.0), h)) (λ _. h) (λ l. (insert_above y k ys h.0 l, insert_rises k ys h.1))

insert_has : (k : ℕ) (xs : List ℕ) (v : ℕ) → has (insert_key nat_cmp xs k) v ≡ (has xs v || k == v)
insert_has k [] v = turn (k == v)
  where
    turn : (a : Bool) → (a || false) ≡ (false || a)
    turn a = grind arith
insert_has k (y ∷ ys) v =
    order_cases k y
    (λ o. has (match_ordering o (k ∷ y ∷ ys) (y ∷ ys) (y ∷ insert_key nat_cmp ys k)) v
    ≡ ((y == v || has ys v) || k == v))
    (λ _. turn (k == v) (y == v || has ys v)) (λ e. rw e (twice (y == v) (has ys v)))
    (λ _. ap (λ b. y == v || b) (insert_has k ys v) ∙ assoc (y == v) (has ys v) (k == v))
  where
    turn : (a b : Bool) → (a || b) ≡ (b || a)
    turn a b = grind arith

    twice : (a b : Bool) → (a || b) ≡ ((a || b) || a)
    twice a b = grind arith

    assoc : (a b c : Bool) → (a || (b || c)) ≡ ((a || b) || c)
    assoc a b c = grind arith

order_from : (acc ns : List ℕ) → Rises acc → Rises (fold (insert_key nat_cmp) acc ns)
order_from acc [] h = h
order_from acc (n ∷ ns) h = order_from (insert_key nat_cmp acc n) ns (insert_rises n acc h)

has_from : (acc ns : List ℕ) (v : ℕ) → has (fold (insert_key nat_cmp) acc ns) v ≡ (has acc v || has ns v)
has_from acc [] v = nil (has acc v)
  where
    nil : (a : Bool) → a ≡ (a || false)
    nil a = grind arith
has_from acc (n ∷ ns) v = has_from (insert_key nat_cmp acc n) ns v ∙ ap (λ b. b || has ns v) (insert_has n acc v)
    ∙ assoc (has acc v) (n == v) (has ns v)
  where
    assoc : (a b c : Bool) → ((a || b) || c) ≡ (a || (b || c))
    assoc a b c = grind arith

pub in_order_rises : (ns : List ℕ) → Rises (in_order ns)
in_order_rises ns = order_from [] ns tt

pub in_order_has : (ns : List ℕ) (v : ℕ) → has (in_order ns) v ≡ has ns v
in_order_has ns v = has_from [] ns v

not_among : (x : ℕ) (xs : List ℕ) → Above x xs → has xs x ≡ false
not_among x [] h = refl
not_among x (y ∷ ys) h =
    or_from (y == x) (has ys x) (ne_eqb y x (λ e. absurd (omega (arith, h.0)))) (not_among x ys h.1)

once_rising : (xs : List ℕ) → Rises xs → once xs ≡ true
once_rising [] h = refl
once_rising (x ∷ xs) h = and_from (not (has xs x)) (once xs) (not_from_false (has xs x) (not_among x xs h.0))
    (once_rising xs h.1)

pub in_order_once : (ns : List ℕ) → once (in_order ns) ≡ true
in_order_once ns = once_rising (in_order ns) (in_order_rises ns)
