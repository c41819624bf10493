use Rattle.std.proofs.Common.{◌≡◌, map, take}
use Rattle.std.specs.HashMap.{get}
use Rattle.road_time.specs.Tuples.{same_place}
use Rattle.road_rules.specs.Gathered.{kept_items}
use Rattle.road_rules.specs.Groups.{shown_group, groups_by}
use Rattle.road_rules.proofs.mishaps.groups_at.Given as goal

abbrev pub invariant-loop-place : goal.invariant-loop-place
invariant-loop-place l = map shown_group l.groups.items
    ≡ groups_by (λ p. kept_items (get same_place l.by_place p)) (take l.place-index l.places)
