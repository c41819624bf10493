use Rattle.std.proofs.Common.{◌≡◌, map, take}
use Rattle.road_time.specs.Rows.{in_order}
use Rattle.road_rules.specs.Accounts.{shown_charge}
use Rattle.road_rules.proofs.rows.vehicles.Given as goal

abbrev pub invariant-loop-charge : goal.invariant-loop-charge
invariant-loop-charge l = l.vids.keys ≡ in_order (map (λ c. c.vid) (map shown_charge (take l.charge-index l.charges)))
