use Rattle.std.proofs.Common.{◌≡◌, map, take}
use Rattle.road_time.specs.Day.{sum_of}
use Rattle.road_time.specs.Rows.{charges_on}
use Rattle.road_rules.specs.Accounts.{shown_charge}
use Rattle.road_rules.proofs.rows.sum_on.Given as goal

abbrev pub invariant-loop-charge : goal.invariant-loop-charge
invariant-loop-charge l = l.total ≡ sum_of (charges_on l.xway (map shown_charge (take l.charge-index l.charges)))
