use Rattle.std.proofs.Common.{◌≡◌, ◌-◌, None, [], ◌∷◌, take}
use Rattle.std.specs.List.{find, filter_map}
use Rattle.road_time.specs.Tuples.{reports}
use Rattle.road_time.specs.Ways.{downstream_of}
use Rattle.road_time.specs.Stops.{stood}
use Rattle.road_time.specs.Tolls.{stops_at}
use Rattle.road_rules.proofs.near.plain_near.Given as goal

abbrev pub invariant-loop-i : goal.invariant-loop-i
invariant-loop-i l =
    find (λ s. stood (stops_at (reports l.tuples)) (l.in_minute - 1) (record l.stretch { seg = s }))
    (filter_map (downstream_of l.stretch.seg l.stretch.dir) (take l.i (0 ∷ 1 ∷ 2 ∷ 3 ∷ 4 ∷ []))) ≡ None
