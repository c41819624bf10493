-- the order of lines: what stands in the order of vehicles and types, put in the order of Time
use Rattle.std.proofs.Common.{◌≡◌, ℕ, ◌≤◌, ◌<◌, ◌⊎◌, ⊎_elim, inl, inr, List, [], ◌∷◌, ◌++◌, nat_le, arith}
use Rattle.std.specs.List.{AllByRecursion, fold}
use Rattle.std.proofs.lemmas.Bool.{cond_both, leb-true, leb-false}
use Rattle.road_time.specs.declared.road.Tuple.{Tuple}
use Rattle.road_time.specs.Tuples.{time_of}
use Rattle.road_time.specs.Order.{placed, by_time}
use Rattle.road_time.proofs.EachLaws.{joined, weakened}
use Rattle.road_time.proofs.OrderLaws.{placed_each}
use Rattle.tuples_traffic.specs.Turns.{IsLower, ComesBefore, InLineOrder}

-- where both are of one second the first is the lower one
abbrev pub Turns : Tuple → Tuple → Type 0
Turns x y = time_of x ≡ time_of y → IsLower x y

-- so of each tuple and all that follow it
abbrev pub InTurn : List Tuple → Type 0
InTurn [] = Unit {0}
InTurn (x ∷ xs) = AllByRecursion (Turns x) xs × InTurn xs

-- two lists, where each of the first goes with each of the second
pub turns_joined : (xs ys : List Tuple) → InTurn xs → InTurn ys → AllByRecursion (λ x. AllByRecursion (Turns x) ys) xs →
    InTurn (xs ++ ys)
turns_joined [] ys a b c = b
turns_joined (x ∷ xs) ys a b c = (joined (Turns x) xs ys a.0 c.0, turns_joined xs ys a.1 b c.1)

-- what is not above is below or the same
order : (a b : ℕ) → a ≤ b → (a < b) ⊎ (a ≡ b)
order a b h = grind arith

-- one not later that goes with another comes before it
comes : (x y : Tuple) → time_of x ≤ time_of y → Turns x y → ComesBefore x y
comes x y h t = ⊎_elim (λ (l : time_of x < time_of y). inl l) (λ (e : time_of x ≡ time_of y). inr (e, t e))
    (order (time_of x) (time_of y) h)

-- what comes before is not later
not_later : (x y : Tuple) → ComesBefore x y → time_of x ≤ time_of y
not_later x y h =
    ⊎_elim (λ (l : time_of x < time_of y). omega (arith, l))
    (λ (e : (time_of x ≡ time_of y) × IsLower x y). omega (arith, e.0)) h

-- one put in among those in order with which it goes
placed_in_line : (ys : List Tuple) (x : Tuple) → InLineOrder ys → AllByRecursion (λ y. Turns y x) ys →
    InLineOrder (placed ys x)
placed_in_line [] x h t = (tt, tt)
placed_in_line (y ∷ ys) x h t =
    cond_both (nat_le (time_of y) (time_of x)) (y ∷ placed ys x) (x ∷ y ∷ ys) InLineOrder
    (λ e. (
      placed_each (ComesBefore y) ys x h.0 (comes y x (leb-true (time_of y) (time_of x) e) t.0),
      placed_in_line ys x h.1 t.1,
    ))
    (λ e. let before : time_of x < time_of y = omega (arith, leb-false (time_of y) (time_of x) e) in (
      (
        inl before,
        weakened (ComesBefore y) (ComesBefore x)
            (λ z c. let later = not_later y z c in inl (omega (arith, before, later))) ys h.0,
      ),
      h,
    ))

-- those to come go with one put in, too
each_placed : (zs : List Tuple) (x : Tuple) (xs : List Tuple) →
    AllByRecursion (λ y. AllByRecursion (λ z. Turns z y) zs) xs → AllByRecursion (Turns x) xs →
    AllByRecursion (λ y. AllByRecursion (λ z. Turns z y) (placed zs x)) xs
each_placed zs x [] h t = tt
each_placed zs x (y ∷ ys) h t = (placed_each (λ z. Turns z y) zs x h.0 t.0, each_placed zs x ys h.1 t.1)

-- put in one by one they come in order
line_from : (acc xs : List Tuple) → InLineOrder acc → InTurn xs →
    AllByRecursion (λ y. AllByRecursion (λ z. Turns z y) acc) xs → InLineOrder (fold placed acc xs)
line_from acc [] h t g = h
line_from acc (x ∷ xs) h t g =
    line_from (placed acc x) xs (placed_in_line acc x h g.0) t.1 (each_placed acc x xs g.1 t.0)

-- each goes with none
none_yet : (xs : List Tuple) → AllByRecursion (λ y. AllByRecursion (λ z. Turns z y) []) xs
none_yet [] = tt
none_yet (x ∷ xs) = (tt, none_yet xs)

-- in the order of Time they are in the order of lines
pub line_order : (xs : List Tuple) → InTurn xs → InLineOrder (by_time xs)
line_order xs t = line_from [] xs tt t (none_yet xs)
