use Rattle.std.proofs.Common.{◌≡◌, take}
use Rattle.std.specs.HashMap.{get}
use Rattle.std.specs.List.{filter}
use Rattle.road_time.specs.declared.road.Stretch.{Stretch}
use Rattle.road_time.specs.Tuples.{same_stretch}
use Rattle.road_rules.specs.Halts.{is_in}
use Rattle.road_rules.specs.Gathered.{kept_items}
use Rattle.road_rules.proofs.spots.halts_by_stretch.Given as goal

abbrev pub invariant-loop-halt : goal.invariant-loop-halt
invariant-loop-halt l =
    (k : Stretch) → kept_items (get same_stretch l.by_stretch k) ≡ filter (is_in k) (take l.halt-index l.halts)
