use Rattle.std.proofs.Common.{◌≡◌, ℕ, ◌++◌, List, length, take, map}
use Rattle.std.specs.List.{AllByRecursion}
use Rattle.std.specs.VecDeque.{deque_len}
use Rattle.road_time.specs.declared.road.Tuple.{Tuple}
use Rattle.road_time.specs.Tolls.{StretchTold}
use Rattle.road_time.specs.Day.{given}
use Rattle.ways_expressway.specs.Findings.{shown}
use Rattle.day_floor.specs.Sound.{AreFresh, ReportAt}
use Rattle.day_floor.specs.Slots.{slots_of}
use Rattle.day_floor.proofs.slots.fill.Given as goal

abbrev pub invariant-loop-finding : goal.invariant-loop-finding
invariant-loop-finding l = record {
  len : deque_len l.slots ≡ deque_len l.fn.slots;
  filled : (found : List (ℕ × StretchTold)) (before rest : List Tuple) →
      l.fn.slots.items ≡ slots_of (given found) before rest → length before ≡ l.settled →
      AreFresh found (map shown l.findings) →
      AllByRecursion (λ f. ReportAt (before ++ rest) f.0) (map shown l.findings) →
      l.slots.items ≡ slots_of (given (found ++ map shown (take l.finding-index l.findings))) before rest;
}
