-- What a sorter keeps of the tuples that were put and not yet taken in the order of Time.
use Rattle.std.specs.Prelude.{◌≡◌, ℕ, ◌≤◌, ◌+◌, Bool, false, List, length, take, drop}
use Rattle.std.specs.List.{AllByRecursion}
use Rattle.road_time.specs.declared.road.Tuple.{Tuple}
use Rattle.road_time.specs.Tuples.{time_of}
use Rattle.road_time.specs.Order.{by_time, greatest_time}

-- what a sorter keeps: the lateness, the greatest Time that was put, and the tuples that wait
pub record Sorting : Type 0 where
  pub lateness : ℕ
  pub greatest : ℕ
  pub waiting : List Tuple

-- a sorter stands for the tuples that were put, of which so many of the order of Time were taken; while the end has
-- not come, what was taken stays in its place
pub record IsSorting (s : Sorting) (late : ℕ) (put : List Tuple) (taken : ℕ) (ended : Bool) : Type 0 where
  pub lateness : s.lateness ≡ late
  pub greatest : s.greatest ≡ greatest_time put
  pub few : taken ≤ length put
  pub waiting : s.waiting ≡ drop taken (by_time put)
  pub given : ended ≡ false → AllByRecursion (λ y. time_of y + late ≤ greatest_time put) (take taken (by_time put))
