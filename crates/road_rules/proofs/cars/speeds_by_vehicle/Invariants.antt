use Rattle.std.proofs.Common.{◌≡◌, ℕ, nat_eq, take}
use Rattle.std.specs.HashMap.{get}
use Rattle.std.specs.List.{filter_map}
use Rattle.road_rules.specs.Seen.{noted_speed}
use Rattle.road_rules.specs.Gathered.{kept_items}
use Rattle.road_rules.proofs.cars.speeds_by_vehicle.Given as goal

abbrev pub invariant-loop-tuple : goal.invariant-loop-tuple
invariant-loop-tuple l = (vid : ℕ) → kept_items (get nat_eq l.speeds vid)
    ≡ filter_map (noted_speed l.in_minute l.stretch vid) (take l.tuple-index l.tuples)
