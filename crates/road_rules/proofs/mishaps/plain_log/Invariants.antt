use Rattle.std.proofs.Common.{◌≡◌, map, ℕ}
use Rattle.std.specs.List.{filter_map, flat_map, range_with_len}
use Rattle.road_rules.specs.Groups.{shown_group, mishap_in}
use Rattle.road_rules.proofs.mishaps.plain_log.Given as goal

abbrev pub invariant-loop-from : goal.invariant-loop-from
invariant-loop-from l =
    l.log.items ≡ flat_map (λ (s : ℕ). filter_map (mishap_in l.last s) (map shown_group l.groups.items))
    (range_with_len 0 l.from)
