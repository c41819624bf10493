use Rattle.std.proofs.Common.{◌≡◌, ◌-◌, None, [], ◌∷◌, take}
use Rattle.std.specs.List.{find, filter_map}
use Rattle.road_time.specs.Ways.{downstream_of}
use Rattle.road_time.specs.Stops.{stood}
use Rattle.road_time.specs.Tuples.{reports}
use Rattle.road_rules.specs.Halts.{halting, halts_of}
use Rattle.road_rules.proofs.blocked.near_by.Given as goal

abbrev pub invariant-loop-i : goal.invariant-loop-i
invariant-loop-i l =
    find (λ s. stood (halting (halts_of (reports l.gathered.tuples.now))) (l.in_minute - 1)
    (record l.stretch { seg = s }))
    (filter_map (downstream_of l.stretch.seg l.stretch.dir) (take l.i (0 ∷ 1 ∷ 2 ∷ 3 ∷ 4 ∷ []))) ≡ None
