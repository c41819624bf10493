use Rattle.std.proofs.Common.{◌≡◌, take}
use Rattle.std.specs.HashMap.{get}
use Rattle.std.specs.List.{filter}
use Rattle.road_rules.specs.declared.spots.Spot.{Spot}
use Rattle.road_rules.specs.Gathered.{same_spot, is_of, kept_items}
use Rattle.road_rules.proofs.spots.reports_by_spot.Given as goal

abbrev pub invariant-loop-tuple : goal.invariant-loop-tuple
invariant-loop-tuple l =
    (s : Spot) → kept_items (get same_spot l.by_spot s) ≡ filter (is_of s) (take l.tuple-index l.tuples)
