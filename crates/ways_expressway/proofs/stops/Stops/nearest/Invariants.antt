use Rattle.std.proofs.Common.{◌≡◌, None, [], ◌∷◌, take}
use Rattle.std.specs.List.{find, filter_map}
use Rattle.road_time.specs.Ways.{downstream_of}
use Rattle.ways_expressway.specs.Near.{stood_in}
use Rattle.ways_expressway.proofs.stops.Stops.nearest.Given as goal

abbrev pub invariant-loop-i : goal.invariant-loop-i
invariant-loop-i l =
    find (λ s. stood_in l.self (record l.stretch { seg = s }))
    (filter_map (downstream_of l.stretch.seg l.stretch.dir) (take l.i (0 ∷ 1 ∷ 2 ∷ 3 ∷ 4 ∷ []))) ≡ None
