use Rattle.std.proofs.Common.{◌≡◌, take}
use Rattle.std.specs.HashMap.{get}
use Rattle.std.specs.List.{filter}
use Rattle.road_time.specs.declared.road.Place.{Place}
use Rattle.road_time.specs.Tuples.{same_place}
use Rattle.road_rules.specs.Halts.{is_at}
use Rattle.road_rules.specs.Gathered.{kept_items}
use Rattle.road_rules.proofs.spots.halts_by_place.Given as goal

abbrev pub invariant-loop-halt : goal.invariant-loop-halt
invariant-loop-halt l =
    (p : Place) → kept_items (get same_place l.by_place p) ≡ filter (is_at p) (take l.halt-index l.halts)
