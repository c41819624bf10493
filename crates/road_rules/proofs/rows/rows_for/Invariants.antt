use Rattle.std.proofs.Common.{◌≡◌, ℕ, map, take}
use Rattle.std.specs.List.{filter, flat_map}
use Rattle.road_time.specs.Day.{charges_to}
use Rattle.road_time.specs.Rows.{rows_to}
use Rattle.road_rules.specs.Accounts.{shown_charge}
use Rattle.road_rules.specs.RowParts.{has_tolls}
use Rattle.road_rules.proofs.rows.rows_for.Given as goal

abbrev pub invariant-loop-vid : goal.invariant-loop-vid
invariant-loop-vid l =
    l.rows.items ≡ filter has_tolls
    (flat_map (λ (v : ℕ). rows_to l.day v (charges_to v (map shown_charge l.charges))) (take l.vid-index l.vids))
