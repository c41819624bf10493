-- a stable sort by Time gives the order of Time
use Rattle.std.proofs.Common.{◌≡◌, ℕ, suc, ◌≤◌, ◌==◌, ◌&&◌, not, nat_lt, Bool, true, false, cond, List, [], ◌∷◌, refl}
use Rattle.std.proofs.Common.{arith, sym, ◌∙◌}
use Rattle.std.specs.List.Sorted.{IsNonDecreasingBy, IsSortedByKey, IsStableByKey, ties}
use Rattle.std.specs.Ordering.{nat_cmp, is_lt}
use Rattle.std.specs.declared.cmp.Ordering.TheVariants.{Less, Equal, Greater}
use Rattle.std.proofs.lemmas.List.Sorted.{IsNonDecreasingBy-from_sort, IsNonDecreasingBy-drop}
use Rattle.std.proofs.lemmas.List.Elements.{All-from_get_or, recursion_from_All, filter_agree}
use Rattle.std.proofs.lemmas.Bool.Decides.{nat_tests}
use Rattle.road_time.specs.declared.road.Tuple.{Tuple}
use Rattle.road_time.specs.declared.road.Tuple.TheVariants.{Travel}
use Rattle.road_time.specs.Tuples.{time_of}
use Rattle.road_time.specs.Order.{NoneBefore, AreTimesInOrder, IsByTime}

-- the first is before none
first_before : (y : Tuple) (ys : List Tuple) → IsNonDecreasingBy time_of (y ∷ ys) → NoneBefore (time_of y) ys
first_before y ys up =
    recursion_from_All (λ x. time_of y ≤ time_of x) ys
    (All-from_get_or (λ x. time_of y ≤ time_of x) ys y (λ i h. up 0 (suc i) y (omega arith) (omega (arith, h))))

-- Times that do not fall are in order
in_order_from : (ys : List Tuple) → IsNonDecreasingBy time_of ys → AreTimesInOrder ys
in_order_from [] up = tt
in_order_from (y ∷ ys) up = (first_before y ys up, in_order_from ys (IsNonDecreasingBy-drop time_of 1 (y ∷ ys) up))

-- below, by the comparison, is below
lt_is : (b c : Bool) → is_lt (cond b Less (cond c Equal Greater)) ≡ b
lt_is true c = refl
lt_is false true = refl
lt_is false false = refl

-- to tie with a second is to be of it
tie_is : (t s : ℕ) → (not (nat_lt t s) && not (nat_lt s t)) ≡ (s == t)
tie_is t s = grind (arith, nat_tests)

-- the tuples that tie with one of a second are those of the second
of_second : (t : ℕ) (y : Tuple) → ties (λ a b. is_lt (nat_cmp (time_of a) (time_of b))) (Travel t) y ≡ (time_of y == t)
of_second t y = rw (lt_is (nat_lt t (time_of y)) (t == time_of y), lt_is (nat_lt (time_of y) t) (time_of y == t))
    (tie_is t (time_of y))

-- what the sort ensures is the order of Time
pub by_time_from_sort : (xs ys : List Tuple) → IsSortedByKey time_of nat_cmp ys → IsStableByKey time_of nat_cmp xs ys →
    IsByTime xs ys
by_time_from_sort xs ys up stable = record {
  in_order = in_order_from ys (IsNonDecreasingBy-from_sort time_of ys up);
  same = λ t.
      sym (filter_agree (ties (λ a b. is_lt (nat_cmp (time_of a) (time_of b))) (Travel t)) (λ y. time_of y == t)
      (of_second t) ys)
      ∙ stable (Travel t) ∙ filter_agree (ties (λ a b. is_lt (nat_cmp (time_of a) (time_of b))) (Travel t))
      (λ y. time_of y == t) (of_second t) xs;
}
