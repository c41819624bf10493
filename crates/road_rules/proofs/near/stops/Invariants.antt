use Rattle.std.proofs.Common.{◌≡◌, take, map}
use Rattle.std.specs.List.{filter}
use Rattle.road_time.specs.Tuples.{place_of}
use Rattle.road_time.specs.Stops.{is_stopped}
use Rattle.road_rules.proofs.near.stops.Given as goal

abbrev pub invariant-loop-r : goal.invariant-loop-r
invariant-loop-r l =
    l.stopped.items ≡ filter (λ s. is_stopped l.reports s.0 s.1)
    (map (λ r. (r.vid, place_of r)) (take l.r-index l.reports))
