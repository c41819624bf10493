-- rounds over the tuples of a day
use Rattle.std.proofs.Common.{◌≡◌, ◌≢◌, ℕ, ◌+◌, ◌≤◌, true, List, [], ◌∷◌, length, Result, Ok, Err, OnOk, refl, ap}
use Rattle.std.proofs.Common.{arith}
use Rattle.road_time.specs.declared.road.Tuple.{Tuple}
use Rattle.day_floor.specs.Shares.{State}
use Rattle.day_import.specs.PlannedRounds.{are_left}
use Rattle.day_import.specs.declared.fault.DayFault.{DayFault}
use Rattle.day_import.specs.DayFaults.{IsCounted, IsCountedAhead}

-- there is room where all that was fed is settled
pub some_room : (s : State) (fed : List Tuple) (room backlog : ℕ) → s.fed ≡ fed → s.settled ≡ length fed →
    length s.fed + room ≡ s.settled + backlog → 1 ≤ backlog → 1 ≤ room
some_room s fed room backlog is all has some = let l = ap length is in omega (arith, l, all, has, some)

-- no tuple is left where there are none
pub no_more : (xs : List Tuple) → length xs ≡ 0 → xs ≡ []
no_more [] e = refl
no_more (x ∷ xs) e = absurd (omega (arith, e))

-- and one is where there are some
pub some_left : (xs : List Tuple) → 1 ≤ length xs → are_left xs ≡ true
some_left [] some = absurd (omega (arith, some))
some_left (x ∷ xs) some = refl

-- what holds of each answer but one holds where all went well
on_passed : {T : Type 0} (fault : DayFault) (P : Type 0) (r : Result T DayFault) → (r ≢ Err fault → P) → OnOk r P
on_passed fault P (Ok x) f = f (λ e. let no : ⊥ = cc in no)
on_passed fault P (Err e) f = tt

-- a source that reads nothing ahead is counted as one that does
pub counted_ahead : {T : Type 0} (fault : DayFault) (before now : ℕ) (fine left : Type 0) (r : Result T DayFault) →
    IsCounted fault before now fine left r → IsCountedAhead fault before now fine left r
counted_ahead fault before now fine left r h =
    record {
      later = h.later;
      cause = h.cause;
      passed = on_passed fault (now ≡ before) r h.still;
      still = λ other write keeper. h.still other;
      sure = h.sure;
    }
