use Rattle.std.proofs.Common.{ℕ, List, take}
use Rattle.road_time.specs.Day.{given, HasFewTolls}
use Rattle.road_time.specs.Tolls.{StretchTold}
use Rattle.ways_audit.specs.Closing.{IsPlaced}
use Rattle.ways_audit.specs.Payments.{amounts_of}
use Rattle.ways_audit.proofs.ClosingLaws.{AreClosed}
use Rattle.ways_audit.proofs.closing.close.Given as goal

abbrev pub invariant-loop-at : goal.invariant-loop-at
invariant-loop-at l = (found : List (ℕ × StretchTold)) → IsPlaced l.places found → HasFewTolls (given found) →
    AreClosed found l.number (amounts_of l.payments.amounts.entries) (take l.at l.tuples) l.book l.notices.items
