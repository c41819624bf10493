-- A reader in the midst of a day that is imported.
use Rattle.std.specs.Prelude.{◌≡◌, ℕ, ◌++◌, ◌≤◌, ◌<◌, Bool, true, false, List, [], length, Option, None}
use Rattle.road_time.specs.declared.road.Tuple.{Tuple}
use Rattle.road_time.specs.declared.day.Limits.{Limits}
use Rattle.day_reading.specs.declared.day_ahead.DayAhead.{DayAhead}
use Rattle.day_reading.specs.declared.whole_day.ReadStop.{ReadStop}
use Rattle.day_reading.specs.Ahead.{has_more, is_digested, IsAhead, IsGatheringAhead, HasFailedAhead}

-- a reader gave some tuples more, of a day under these limits and at this lateness
pub record HasGiven (limits : Limits) (late : ℕ) (xs : List Tuple) (old new : DayAhead) (was left : Option (List ℕ)) :
    Type 0 where
  pub gathers : (given : List Tuple) → IsGatheringAhead old limits late given →
      IsGatheringAhead new limits late (given ++ xs)
  pub reads : (bytes : List ℕ) (given : List Tuple) → IsAhead old limits late was bytes given →
      IsAhead new limits late left bytes (given ++ xs)
  pub digested : is_digested new ≡ is_digested old

-- a reader gave some tuples more behind those that were there, up to so many: where the whole of them was asked, fewer
-- only where none is left; and none where none was
pub record HasGatheredOn (whole : Bool) (count : ℕ) (xs ys : List Tuple) (old new : DayAhead)
    (was left : Option (List ℕ)) : Type 0 where
  pub given : (limits : Limits) (late : ℕ) (first : DayAhead) (all : Option (List ℕ)) →
      HasGiven limits late xs first old all was → HasGiven limits late ys first new all left
  pub few : length xs ≤ count → length ys ≤ count
  pub some : whole ≡ true → has_more old ≡ true → length xs < count → length xs < length ys
  pub full : whole ≡ true → length ys < count → has_more new ≡ false
  pub ended : has_more old ≡ false → (ys ≡ xs) × (has_more new ≡ false)
  pub unfailed : HasFailedAhead new → ⊥

-- where nothing stopped the reader it gave some tuples more, up to so many, and none where none was left; where the
-- whole of them was asked, so many, or all that were left
pub record HasReadOn (whole : Bool) (stop : Option ReadStop) (count : ℕ) (xs : List Tuple) (old new : DayAhead)
    (was left : Option (List ℕ)) : Type 0 where
  pub given : stop ≡ None → (limits : Limits) (late : ℕ) → HasGiven limits late xs old new was left
  pub few : stop ≡ None → length xs ≤ count
  pub full : whole ≡ true → stop ≡ None → length xs < count → has_more new ≡ false
  pub ended : stop ≡ None → has_more old ≡ false → (xs ≡ []) × (has_more new ≡ false)
  pub unfailed : stop ≡ None → HasFailedAhead new → ⊥
