use Rattle.std.proofs.Common.{◌≡◌, ℕ, List}
use Rattle.road_time.specs.declared.road.Tuple.{Tuple}
use Rattle.day_floor.specs.Shares.{Share, least_of}
use Rattle.day_floor.specs.Desks.{StandFor}
use Rattle.day_floor.proofs.inboxes.Inboxes.least.Given as goal

abbrev pub invariant-loop-desk : goal.invariant-loop-desk
invariant-loop-desk l = (day : List Tuple) (share : ℕ → Share) → StandFor l.self day share →
    l.least ≡ least_of share l.desk-index l.fed
