use Rattle.std.proofs.Common.{◌≡◌, ◌++◌, map, take}
use Rattle.std.specs.List.{filter_map}
use Rattle.road_rules.specs.Groups.{shown_group, mishap_in}
use Rattle.road_rules.proofs.mishaps.add_mishaps.Given as goal

abbrev pub invariant-loop-group : goal.invariant-loop-group
invariant-loop-group l =
    l.log.items ≡ l.initial.log.items ++ filter_map (mishap_in l.last l.from)
    (map shown_group (take l.group-index l.groups))
